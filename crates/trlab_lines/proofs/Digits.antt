-- The value of digits.
use Rattle.std.proofs.Common.{◌≡◌, ℕ, ◌+◌, ◌-◌, ◌*◌, ◌^◌, ◌<◌, ◌≤◌, List, length, take, get_or, sym, arith}
use Rattle.std.proofs.Common.{rules, true}
use Rattle.std.proofs.lemmas.Str.Parse.{IsNumeralModel, numerals_by_value, digits_value_short}
use Rattle.std.proofs.lemmas.{Str.Parse.{digits_value-take-le, digit_at}, Int.Digits.digits_value_more}
use Rattle.std.{proofs.lemmas.Bool.Decides.nat_tests, specs.{Char.digit_value, Str.Parse.digits_value}}
use Rattle.trlab_lines.specs.Lines.{all_digits}

pub own : IsNumeralModel (λ ds. all_digits ds ≡ true) (digits_value 10)
own = numerals_by_value (λ ds. all_digits ds ≡ true) (search rules)

digit_of : (c : ℕ) → 48 ≤ c → c ≤ 57 → digit_value c ≡ c - 48
digit_of c low high = grind (arith, nat_tests)

pub value_step : (s : List ℕ) (i : ℕ) → all_digits s ≡ true → length s ≤ 10 → i < length s
    → (digits_value 10 (take i s) * 10 + (get_or s i 0 - 48) ≡ digits_value 10 (take (i + 1) s)) × (digits_value 10 (take (i + 1) s) < 10000000000) × (48 ≤ get_or s i 0)
value_step s i all short inside =
    let range = digit_at s i (own.to s all) inside in
    let more = digits_value_more 10 s i inside in
    let digit = digit_of (get_or s i 0) range.0 range.1 in
    let most : digits_value 10 s < 10 ^ 10 = digits_value_short own s 10 all short in
    let less = digits_value-take-le 10 s (i + 1) (omega arith) in
    (sym (rw digit at more), omega arith, range.0)
