-- The digits of numbers are plain text.
use Rattle.std.proofs.Common.{ℕ, ◌<◌, ◌+◌, ◌%◌, ◌^◌, [], All, arith, decimal, inr}
use Rattle.std.proofs.lemmas.{Fmt.decimal_by_steps, List.Elements.{All-cons, All-nil, All-push}}
use Rattle.trlab_lines.specs.Plain.{IsPlain}

plain_digit : (n : ℕ) → n < 10 → IsPlain (48 + n)
plain_digit n lt = inr (omega arith, omega (arith, lt))

pub plain_digits : (n : ℕ) → n < 2 ^ 64 → All IsPlain (decimal n)
plain_digits n fits =
    decimal_by_steps (λ _ ds. All IsPlain ds) (λ d lt. All-cons IsPlain (48 + d) [] (plain_digit d lt) (All-nil IsPlain))
    (λ m ds ge all. All-push IsPlain ds (48 + m % 10) all (plain_digit (m % 10) (omega arith))) n fits
