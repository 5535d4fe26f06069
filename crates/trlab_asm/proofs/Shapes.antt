-- Operands on both sides of a comma.
use Rattle.std.proofs.Common.{◌≡◌, ℕ, List, Bor, refl, Some, Result, Ok, Err, IfOk}
use Rattle.trlab_lines.specs.Lines.{cut}
use Rattle.trlab_asm.specs.{Operands.{◌>>=◌, map_ok, ◌then◌, numeral, two_numerals}, declared.fault.Why.Why}

-- one operand, and then the rest
pub both_said : {A B : Type 0} (first : List ℕ → Result A Why) (rest : List ℕ → Result B Why) (text x y : List ℕ) (a : Result A Why) (b : Result B Why) (r : Result (A × B) Why)
    → Some (x, y) ≡ cut 44 text → a ≡ first x → b ≡ rest y → r ≡ (a >>= λ p. b >>= λ q. Ok (p, q)) → r ≡ (first then rest) text
both_said first rest text x y a b r parts said left e = rw (e, said, left, ← parts) refl

-- a property of the first operand
pub first_known : {A B : Type 0} (P : A → Type 0) (a : Result A Why) (b : Result B Why) (r : Result (A × B) Why) → r ≡ (a >>= λ p. b >>= λ q. Ok (p, q)) → IfOk a P → IfOk r (λ x. P x.0)
first_known P (Ok p) (Ok q) r e known = rw e known
first_known P (Ok p) (Err f) r e known = rw e tt
first_known P (Err f) b r e known = rw e tt

-- a property of the rest
pub rest_known : {A B : Type 0} (P : B → Type 0) (a : Result A Why) (b : Result B Why) (r : Result (A × B) Why) → r ≡ (a >>= λ p. b >>= λ q. Ok (p, q)) → IfOk b P → IfOk r (λ x. P x.1)
rest_known P (Ok p) (Ok q) r e known = rw e known
rest_known P (Ok p) (Err f) r e known = rw e tt
rest_known P (Err f) b r e known = rw e tt

-- the digits of two numbers
pub numerals_said : (text x y : List ℕ) (a b : Result (Bor (List ℕ)) Why) (r : Result (Bor (List ℕ) × Bor (List ℕ)) Why)
    → Some (x, y) ≡ cut 44 text → map_ok (λ digits. digits.now) a ≡ numeral x → map_ok (λ digits. digits.now) b ≡ numeral y → r ≡ (a >>= λ p. b >>= λ q. Ok (p, q))
    → map_ok (λ parts. (parts.0.now, parts.1.now)) r ≡ two_numerals text
numerals_said text x y (Ok p) (Ok q) r parts first rest e = rw (e, ← parts, ← first, ← rest) refl
numerals_said text x y (Ok p) (Err f) r parts first rest e = rw (e, ← parts, ← first, ← rest) refl
numerals_said text x y (Err f) b r parts first rest e = rw (e, ← parts, ← first) refl
