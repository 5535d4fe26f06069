-- Rows of bits as levels.
use Rattle.std.proofs.Common.{◌≡◌, ℕ, ◌/◌, ◌*◌, ◌^◌, ◌%◌, ◌-◌, ◌<◌, min, max, arith, ◌∙◌, bit_and, bit_or}
use Rattle.std.proofs.{Common.{Bool, true, false, nat_eq, cond, eqb-true, w16}, lemmas.Bool.eqb-false}
use Rattle.std.proofs.lemmas.Nat.Bits.{bit_at_and, bit_at_or, bit_at-lt, bit_at_set_same, bit_at_set_other}
use Rattle.std.{proofs.lemmas.Nat.Bits.{bit_at_clear_same, bit_at_clear_other, shr_and_one}, specs.Int.bit_at}
use Rattle.trlab_notes.specs.{declared.rows.LevelRow.LevelRow, Rows.level_in}

-- bits and levels as numbers
some_level : (a b c : ℕ) → a < 2 → b < 2 → c ≡ max a b → c ≡ min (max a (2 * b)) 1
some_level a b c p q e = omega arith

lesser : (a b c d x y : ℕ) → a < 2 → b < 2 → c < 2 → d < 2 → x ≡ min (min (max a (2 * b)) 1) (min (max c (2 * d)) 1) → y ≡ min b d →
    max x (2 * y) ≡ min (max a (2 * b)) (max c (2 * d))
lesser a b c d x y p q r s e f = omega arith

greater : (a b c d x y : ℕ) → x ≡ max a c → y ≡ max b d → max x (2 * y) ≡ max (max a (2 * b)) (max c (2 * d))
greater a b c d x y e f = omega arith

pub ahead_is : (r : LevelRow) (y : ℕ) → bit_at (bit_or r.at_most r.below) y ≡ min (level_in r y) 1
ahead_is r y = some_level (bit_at r.at_most y) (bit_at r.below y) (bit_at (bit_or r.at_most r.below) y) (bit_at-lt r.at_most y) (bit_at-lt r.below y) (bit_at_or r.at_most r.below y)

both_ends : (a b c d : ℕ) → a ≡ c → b ≡ d → min a b ≡ min c d
both_ends a b c d e f = omega arith

pub both_is : (r s : LevelRow) (m n y : ℕ) → bit_at m y ≡ min (level_in r y) 1 → bit_at n y ≡ min (level_in s y) 1 →
    level_in (record { at_most = bit_and m n; below = bit_and r.below s.below }) y ≡ min (level_in r y) (level_in s y)
both_is r s m n y e f =
    lesser (bit_at r.at_most y) (bit_at r.below y) (bit_at s.at_most y) (bit_at s.below y) (bit_at (bit_and m n) y) (bit_at (bit_and r.below s.below) y) (bit_at-lt r.at_most y) (bit_at-lt r.below y) (bit_at-lt s.at_most y) (bit_at-lt s.below y) (bit_at_and m n y ∙ both_ends _ _ _ _ e f) (bit_at_and r.below s.below y)

pub either_is : (r s : LevelRow) (y : ℕ) →
    level_in (record { at_most = bit_or r.at_most s.at_most; below = bit_or r.below s.below }) y ≡ max (level_in r y) (level_in s y)
either_is r s y =
    greater (bit_at r.at_most y) (bit_at r.below y) (bit_at s.at_most y) (bit_at s.below y) (bit_at (bit_or r.at_most s.at_most) y) (bit_at (bit_or r.below s.below) y) (bit_at_or r.at_most s.at_most y) (bit_at_or r.below s.below y)

pub set_is : (n k y : ℕ) (on b : Bool) → k < 16 → on ≡ true → nat_eq y k ≡ b →
    bit_at (bit_or n (1 * 2 ^ k % 65536)) y ≡ cond b (cond on 1 0) (bit_at n y)
set_is n k y on true within e eb = let same : y ≡ k = eqb-true y k eb in rw (e, same) (bit_at_set_same w16 n k within)
set_is n k y on false within e eb = bit_at_set_other w16 n k within y (eqb-false y k eb)

pub clear_is : (n k y : ℕ) (on b : Bool) → k < 16 → y < 16 → on ≡ false → nat_eq y k ≡ b →
    bit_at (bit_and n (65535 - 1 * 2 ^ k % 65536)) y ≡ cond b (cond on 1 0) (bit_at n y)
clear_is n k y on true within lt e eb = let same : y ≡ k = eqb-true y k eb in rw (e, same) (bit_at_clear_same w16 n k within)
clear_is n k y on false within lt e eb = bit_at_clear_other w16 n k within y lt (eqb-false y k eb)

-- the larger of two levels of the same form
pub sum_levels : (made : ℕ → ℕ → ℕ) (r i j k l m n h g : ℕ) → r ≡ max i j → i ≡ made k h → j ≡ made l g → k ≡ m → l ≡ n →
    r ≡ max (made m h) (made n g)
sum_levels made r i j k l m n h g e p q s t = e ∙ (λ z. max ((p ∙ (λ w. made (s w) h)) z) ((q ∙ (λ w. made (t w) g)) z))

two_bits : (a b u : ℕ) → a < 2 → u ≡ b → u ≡ 1 → 2 ≡ max a (2 * b)
two_bits a b u p e f = omega arith

one_bit : (a b u v : ℕ) → b < 2 → u ≡ b → (u ≡ 1 → ⊥) → v ≡ a → v ≡ max a (2 * b)
one_bit a b u v p e f g = omega arith

pub is_below : (r : LevelRow) (y : ℕ) → bit_and (r.below / 2 ^ y) 1 ≡ 1 → 2 ≡ level_in r y
is_below r y e = two_bits _ _ _ (bit_at-lt r.at_most y) (shr_and_one r.below y) e

pub is_not_below : (r : LevelRow) (y : ℕ) → (bit_and (r.below / 2 ^ y) 1 ≡ 1 → ⊥) → bit_and (r.at_most / 2 ^ y) 1 ≡ level_in r y
is_not_below r y e = one_bit _ _ _ _ (bit_at-lt r.below y) (shr_and_one r.below y) e (shr_and_one r.at_most y)
