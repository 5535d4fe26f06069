-- The lanes of vectors, and the sixteen words of a state.
use Rattle.std.proofs.Common.{◌≡◌, ℕ, zero, suc, ◌<◌, ◌+◌, ◌-◌, ◌*◌, ◌/◌, ◌%◌, ◌^◌, List, length, slice_index}
use Rattle.std.proofs.Common.{replicate, bit_or, bit_xor, w32, arith, refl, sym, ap₂, ◌∙◌, subst}
use Rattle.std.proofs.lemmas.Simd.{length-zip2, get_or-zip2, length-replicate, get_or-replicate}
use Rattle.std.specs.{Int.rotate_left, Simd.Lanes.zip2}
use Rattle.rand_chacha.specs.{Block.xor_rotate, Lanes.{lane, lane_at}}

-- a property of each of four numbers
pub below_four : (P : ℕ → Type 0) → P 0 → P 1 → P 2 → P 3 → (j : ℕ) → j < 4 → P j
below_four P p0 p1 p2 p3 zero h = p0
below_four P p0 p1 p2 p3 (suc zero) h = p1
below_four P p0 p1 p2 p3 (suc (suc zero)) h = p2
below_four P p0 p1 p2 p3 (suc (suc (suc zero))) h = p3
below_four P p0 p1 p2 p3 (suc (suc (suc (suc n)))) h = absurd (omega arith)

-- a property of each of the sixteen words
pub below_sixteen : (P : ℕ → Type 0) → P 0 → P 1 → P 2 → P 3 → P 4 → P 5 → P 6 → P 7
    → P 8 → P 9 → P 10 → P 11 → P 12 → P 13 → P 14 → P 15 → (k : ℕ) → k < 16 → P k
below_sixteen P a0 a1 a2 a3 b0 b1 b2 b3 c0 c1 c2 c3 d0 d1 d2 d3 k h =
    let place : 4 * (k / 4) + k % 4 ≡ k = omega arith in
    subst P place (below_four (λ row. (col : ℕ) → col < 4 → P (4 * row + col))
    (below_four _ a0 a1 a2 a3) (below_four _ b0 b1 b2 b3) (below_four _ c0 c1 c2 c3) (below_four _ d0 d1 d2 d3)
    (k / 4) (omega arith) (k % 4) (omega arith))

-- a property of each of eight lanes, or words
pub below_eight : (P : ℕ → Type 0) → P 0 → P 1 → P 2 → P 3 → P 4 → P 5 → P 6 → P 7 → (k : ℕ) → k < 8 → P k
below_eight P p0 p1 p2 p3 p4 p5 p6 p7 zero h = p0
below_eight P p0 p1 p2 p3 p4 p5 p6 p7 (suc zero) h = p1
below_eight P p0 p1 p2 p3 p4 p5 p6 p7 (suc (suc zero)) h = p2
below_eight P p0 p1 p2 p3 p4 p5 p6 p7 (suc (suc (suc zero))) h = p3
below_eight P p0 p1 p2 p3 p4 p5 p6 p7 (suc (suc (suc (suc zero)))) h = p4
below_eight P p0 p1 p2 p3 p4 p5 p6 p7 (suc (suc (suc (suc (suc zero))))) h = p5
below_eight P p0 p1 p2 p3 p4 p5 p6 p7 (suc (suc (suc (suc (suc (suc zero)))))) h = p6
below_eight P p0 p1 p2 p3 p4 p5 p6 p7 (suc (suc (suc (suc (suc (suc (suc zero))))))) h = p7
below_eight P p0 p1 p2 p3 p4 p5 p6 p7 (suc (suc (suc (suc (suc (suc (suc (suc n)))))))) h = absurd (omega arith)

-- two shifts of a word and an or are a rotation
is_rotation : (k : ℕ) → 0 < k → k < 32 → (x : ℕ) → bit_or (x * 2 ^ k % 2 ^ 32) (x / 2 ^ (32 - k)) ≡ rotate_left w32 x k
is_rotation k low high x =
    let left : k % 32 ≡ k = omega arith in
    let right : (32 - k) % 32 ≡ 32 - k = omega arith in
    rw (left, right) refl

-- the words that are shifted up, and down
abbrev up : ℕ → ℕ → ℕ
up x s = x * 2 ^ s % 2 ^ 32

abbrev down : ℕ → ℕ → ℕ
down x s = x / 2 ^ s

-- the same in each of n lanes
pub shifts_rotate : (n k : ℕ) → 0 < k → k < 32 → (a : List ℕ) → length a ≡ n → (b : List ℕ) → length b ≡ n → (j : ℕ) → j < n
    → slice_index (zip2 bit_or (zip2 up (zip2 bit_xor a b) (replicate n k)) (zip2 down (zip2 bit_xor a b) (replicate n (32 - k)))) j
    ≡ xor_rotate (slice_index a j) (slice_index b j) k
shifts_rotate n k low high a all b all_b j inside =
    let x = zip2 bit_xor a b in
    let so_many : length x ≡ n = length-zip2 bit_xor a b (omega (arith, all, all_b)) ∙ all in
    let raised : length (zip2 up x (replicate n k)) ≡ n = length-zip2 up x (replicate n k) (so_many ∙ sym (length-replicate n k)) ∙ so_many in
    let lowered : length (zip2 down x (replicate n (32 - k))) ≡ n = length-zip2 down x (replicate n (32 - k)) (so_many ∙ sym (length-replicate n (32 - k))) ∙ so_many in
    let in_x : j < length x = omega (arith, so_many, inside) in
    let in_raised : j < length (zip2 up x (replicate n k)) = omega (arith, raised, inside) in
    let in_lowered : j < length (zip2 down x (replicate n (32 - k))) = omega (arith, lowered, inside) in
    let in_left : j < length (replicate n k) = omega (arith, length-replicate n k, inside) in
    let in_right : j < length (replicate n (32 - k)) = omega (arith, length-replicate n (32 - k), inside) in
    let in_a : j < length a = omega (arith, all, inside) in
    let in_b : j < length b = omega (arith, all_b, inside) in
    let word : slice_index x j ≡ bit_xor (slice_index a j) (slice_index b j) = get_or-zip2 bit_xor a b j 0 0 0 in_a in_b in
    let high_part : slice_index (zip2 up x (replicate n k)) j ≡ up (bit_xor (slice_index a j) (slice_index b j)) k
    = get_or-zip2 up x (replicate n k) j 0 0 0 in_x in_left ∙ ap₂ up word (get_or-replicate n j k 0 inside) in
    let low_part : slice_index (zip2 down x (replicate n (32 - k))) j ≡ down (bit_xor (slice_index a j) (slice_index b j)) (32 - k)
    = get_or-zip2 down x (replicate n (32 - k)) j 0 0 0 in_x in_right ∙ ap₂ down word (get_or-replicate n j (32 - k) 0 inside) in
    get_or-zip2 bit_or (zip2 up x (replicate n k)) (zip2 down x (replicate n (32 - k))) j 0 0 0 in_raised in_lowered
    ∙ ap₂ bit_or high_part low_part
    ∙ is_rotation k low high (bit_xor (slice_index a j) (slice_index b j))

-- word k of the state in lane j
pub slice_index-lane : (x : List (List ℕ)) (j k : ℕ) → k < 16 → slice_index (lane j x) k ≡ lane_at x k j
slice_index-lane x j =
    below_sixteen _ refl refl refl refl refl refl refl refl refl refl refl refl refl refl refl refl
