-- Numbers in words.
use Rattle.std.proofs.Common.{◌≡◌, ◌≢◌, ℕ, zero, suc, ◌<◌, ◌≤◌, ◌^◌, List, [], ◌∷◌, length, get_or, refl, sym}
use Rattle.std.proofs.Common.{◌∙◌, ap, arith, Bool, true, false, cond, decimal, None, Some, Result, Ok, Err}
use Rattle.std.proofs.Common.{nat_le, nat_lt, ◌&&◌, bytes_eq, leb-true, le-leb, ltb-true, lt-ltb}
use Rattle.std.proofs.lemmas.Fmt.{decimal_digit, first_decimal, decimal_is_IsNumeral, decimal-digits_value}
use Rattle.std.proofs.lemmas.{Fmt.length-decimal-le, Str.Parse.digits_value_short, Slice.Eq.bytes_eq-Decides}
use Rattle.std.specs.Str.Parse.{digits_value}
use Rattle.trlab_bounds.specs.declared.{programs.TheConstants.MAX_DIGITS, texts.TheConstants.LONGEST_NUMBER}
use Rattle.trlab_lines.{specs.Lines.{all_digits, is_numeral}, proofs.Digits.own}
use Rattle.trlab_texts.specs.{Words.{number_of, within}, declared.fault.Cause.{Cause, TheVariants.Number}}

abbrev ok_number : ℕ → Result ℕ Cause
ok_number v = Ok v

-- the digits of a number above 0 do not begin with 0
pub zero_first : (word : List ℕ) (n : ℕ) → 1 < length word → get_or word 0 0 ≡ 48 → n ≤ LONGEST_NUMBER → word ≡ decimal n → ⊥
zero_first word zero long first small e = let bad : length word ≡ 1 = ap length (e ∙ decimal_digit 0 (omega arith)) in omega arith
zero_first word (suc n) long first small e =
    let above : 48 < get_or (decimal (suc n)) 0 0 = first_decimal (suc n) (omega arith) (omega arith) in
    let same : get_or word 0 0 ≡ get_or (decimal (suc n)) 0 0 = ap (λ t. get_or t 0 0) e in
    omega arith

numeral_said : (word : List ℕ) (some : 0 < length word) → all_digits word ≡ true → is_numeral word ≡ true
numeral_said word some all = rw (lt-ltb 0 (length word) some, all) refl

-- they have the form of a number
pub numeral_form : (word : List ℕ) (n : ℕ) → is_numeral word ≡ false → n ≤ LONGEST_NUMBER → word ≡ decimal n → ⊥
numeral_form word n other small e =
    let is = (decimal_is_IsNumeral n (omega arith)).0 in
    let some : 0 < length word = rw e is.0 in
    let all : all_digits word ≡ true = own.from word (rw e is.1) in
    let both : true ≡ false = sym (numeral_said word some all) ∙ other in cc

-- and there are at most ten
pub ten_digits : (word : List ℕ) (n : ℕ) → MAX_DIGITS < length word → n ≤ LONGEST_NUMBER → word ≡ decimal n → ⊥
ten_digits word n long small e =
    let short : length (decimal n) ≤ 10 = length-decimal-le 10 n (omega arith) (omega arith) (omega arith) in
    let same : length word ≡ length (decimal n) = ap length e in
    omega arith

both_true : (a b : Bool) → (a && b) ≡ true → (a ≡ true) × (b ≡ true)
both_true true b e = (refl, e)
both_true false b e = cc

-- at most ten digits, without leading zeros, are those of their value
pub digits_written : (word : List ℕ) → is_numeral word ≡ true → length word ≤ MAX_DIGITS → (get_or word 0 0 ≡ 48 → length word ≡ 1)
    → (word ≡ decimal (digits_value 10 word)) × (digits_value 10 word ≤ LONGEST_NUMBER)
digits_written word is short needless =
    let parts = both_true (nat_lt 0 (length word)) (all_digits word) is in
    let some : 0 < length word = ltb-true 0 (length word) parts.0 in
    let most : digits_value 10 word < 10 ^ 10 = digits_value_short own word 10 parts.1 (omega arith) in
    (sym (decimal-digits_value own word parts.1 some needless (omega arith)), omega arith)

-- the digits of a number are read as this number
pub number_of_some : (word : List ℕ) (n : ℕ) → n ≤ LONGEST_NUMBER → word ≡ decimal n → number_of word ≡ Some n
number_of_some word n small e =
    let value : digits_value 10 word ≡ n = ap (digits_value 10) e ∙ (decimal_is_IsNumeral n (omega arith)).1 in
    let same : bytes_eq (decimal (digits_value 10 word)) word ≡ true = (bytes_eq-Decides (decimal (digits_value 10 word)) word).1 (ap decimal value ∙ sym e) in
    rw (same, value) refl

high_step : (low high v : ℕ) (a b : Bool) → nat_le v high ≡ b → (v ≤ high → ⊥) → cond (a && b) (ok_number v) (Err Number) ≡ Err Number
high_step low high v a true e h = absurd (h (leb-true v high e))
high_step low high v true false e h = refl
high_step low high v false false e h = refl

none_step : (low high v : ℕ) (word : List ℕ) (b : Bool) → bytes_eq (decimal v) word ≡ b → high ≤ LONGEST_NUMBER → ((n : ℕ) → n ≤ LONGEST_NUMBER → word ≢ decimal n) → within low high (cond b (Some v) None) ≡ Err Number
none_step low high v word false e small none = refl
none_step low high v word true e small none =
    high_step low high v (nat_le low v) (nat_le v high) refl (λ below. none v (omega arith) (sym ((bytes_eq-Decides (decimal v) word).0 e)))

-- a word that is not a number's digits is not read as a number in a range
pub number_of_none : (low high : ℕ) (word : List ℕ) → high ≤ LONGEST_NUMBER → ((n : ℕ) → n ≤ LONGEST_NUMBER → word ≢ decimal n) → within low high (number_of word) ≡ Err Number
number_of_none low high word small none = none_step low high (digits_value 10 word) word (bytes_eq (decimal (digits_value 10 word)) word) refl small none

-- a number of ten digits is within its range
pub long_within : (n : ℕ) → n ≤ LONGEST_NUMBER → within 0 LONGEST_NUMBER (Some n) ≡ Ok n
long_within n small = rw (le-leb 0 n (omega arith), le-leb n LONGEST_NUMBER small) refl

pub one_long : (word : List ℕ) → length word ≤ 1 → get_or word 0 0 ≡ 48 → length word ≡ 1
one_long [] short h = omega arith
one_long (c ∷ cs) short h = omega arith
