-- Words as their four bytes: exclusive or, rotations by whole bytes, and eight words as the lanes of a
-- vector.
use Rattle.std.proofs.Common.{◌≡◌, ℕ, ◌<◌, ◌+◌, ◌*◌, ◌/◌, ◌%◌, ◌^◌, List, [], ◌∷◌, ◌++◌, length, get_or}
use Rattle.std.proofs.Common.{bit_or, bit_xor, Fits, w8, w32, arith, refl, sym, ap, ap₂, subst, div-one, ◌∙◌}
use Rattle.std.proofs.lemmas.{Nat.{or_shifted, xor_block}, Simd.{Each1-get_or, below_from_Fits, pick_l_left}}
use Rattle.std.proofs.lemmas.Simd.{get_or-zip2, get_or-chunk, length-chunk, get_or_wider, get_or_narrower}
use Rattle.std.specs.{Int.rotate_left, Simd.Lanes.{Each1, zip2, chunk, pick_l, number_l, digits_l}}
use Rattle.rand_core.specs.Steps.{u32_at}
use Rattle.trlab_words.proofs.LaneLemmas.{below_eight}

-- the word of four bytes, low byte first
abbrev pub word : ℕ → ℕ → ℕ → ℕ → ℕ
word b0 b1 b2 b3 = b0 + b1 * 2 ^ 8 + b2 * 2 ^ 16 + b3 * 2 ^ 24

-- ---- rotations

module _ (b0 b1 b2 b3 : ℕ) (h0 : b0 < 256) (h1 : b1 < 256) (h2 : b2 < 256) (h3 : b3 < 256) where
  -- by two bytes
  pub rotated_by_16 : word b2 b3 b0 b1 ≡ rotate_left w32 (word b0 b1 b2 b3) 16
  rotated_by_16 =
      let low : word b0 b1 b2 b3 * 2 ^ 16 % 2 ^ 32 ≡ (b0 + b1 * 2 ^ 8) * 2 ^ 16 = omega (arith, h0, h1, h2, h3) in
      let high : word b0 b1 b2 b3 / 2 ^ 16 ≡ b2 + b3 * 2 ^ 8 = omega (arith, h0, h1, h2, h3) in
      sym (ap₂ bit_or low high ∙ or_shifted (b0 + b1 * 2 ^ 8) 16 (b2 + b3 * 2 ^ 8) (omega (arith, h2, h3)) ∙ omega arith)

  -- by one byte
  pub rotated_by_8 : word b3 b0 b1 b2 ≡ rotate_left w32 (word b0 b1 b2 b3) 8
  rotated_by_8 =
      let low : word b0 b1 b2 b3 * 2 ^ 8 % 2 ^ 32 ≡ (b0 + b1 * 2 ^ 8 + b2 * 2 ^ 16) * 2 ^ 8 = omega (arith, h0, h1, h2, h3) in
      let high : word b0 b1 b2 b3 / 2 ^ 24 ≡ b3 = omega (arith, h0, h1, h2, h3) in
      sym (ap₂ bit_or low high ∙ or_shifted (b0 + b1 * 2 ^ 8 + b2 * 2 ^ 16) 8 b3 h3 ∙ omega arith)

-- ---- exclusive or, byte by byte

nested : (b0 b1 b2 b3 : ℕ) → word b0 b1 b2 b3 ≡ ((b3 * 2 ^ 8 + b2) * 2 ^ 8 + b1) * 2 ^ 8 + b0
nested b0 b1 b2 b3 = omega arith

module _ (a0 a1 a2 a3 b0 b1 b2 b3 : ℕ) (g0 : a0 < 256) (g1 : a1 < 256) (g2 : a2 < 256) (h0 : b0 < 256) (h1 : b1 < 256) (h2 : b2 < 256) where
  pub xor_by_bytes : word (bit_xor a0 b0) (bit_xor a1 b1) (bit_xor a2 b2) (bit_xor a3 b3) ≡ bit_xor (word a0 a1 a2 a3) (word b0 b1 b2 b3)
  xor_by_bytes =
      let x2 = xor_block 8 a3 b3 a2 b2 g2 h2 in
      let x1 = xor_block 8 (a3 * 2 ^ 8 + a2) (b3 * 2 ^ 8 + b2) a1 b1 g1 h1 ∙ ap (λ n. n * 2 ^ 8 + bit_xor a1 b1) x2 in
      let x0 = xor_block 8 ((a3 * 2 ^ 8 + a2) * 2 ^ 8 + a1) ((b3 * 2 ^ 8 + b2) * 2 ^ 8 + b1) a0 b0 g0 h0 ∙ ap (λ n. n * 2 ^ 8 + bit_xor a0 b0) x1 in
      nested (bit_xor a0 b0) (bit_xor a1 b1) (bit_xor a2 b2) (bit_xor a3 b3)
      ∙ sym (ap₂ bit_xor (nested a0 a1 a2 a3) (nested b0 b1 b2 b3) ∙ x0)

-- ---- the lanes of a vector

pub byte_small : (xs : List ℕ) → Each1 (Fits w8) xs → (k : ℕ) → k < length xs → get_or xs k 0 < 256
byte_small xs fits k inside = Each1-get_or (λ x. x < 2 ^ 8) xs k 0 inside (below_from_Fits w8 xs fits)

-- two vectors of bytes
pub xor_at : (a b : List ℕ) → length a ≡ 32 → length b ≡ 32 → Each1 (Fits w8) a → Each1 (Fits w8) b → (j : ℕ) → j < 8
    → u32_at (zip2 bit_xor a b) j ≡ bit_xor (u32_at a j) (u32_at b j)
unfolding u32_at
xor_at a b all_a all_b fits_a fits_b j h =
    let at : (k : ℕ) → k < 32 → get_or (zip2 bit_xor a b) k 0 ≡ bit_xor (get_or a k 0) (get_or b k 0)
    = λ k below. get_or-zip2 bit_xor a b k 0 0 0 (omega arith) (omega arith) in
    let small_a = λ (k : ℕ) (below : k < 32). byte_small a fits_a k (omega arith) in
    let small_b = λ (k : ℕ) (below : k < 32). byte_small b fits_b k (omega arith) in
    rw (at (4 * j) (omega arith), at (4 * j + 1) (omega arith), at (4 * j + 2) (omega arith), at (4 * j + 3) (omega arith))
    (xor_by_bytes (get_or a (4 * j) 0) (get_or a (4 * j + 1) 0) (get_or a (4 * j + 2) 0) (get_or a (4 * j + 3) 0)
    (get_or b (4 * j) 0) (get_or b (4 * j + 1) 0) (get_or b (4 * j + 2) 0) (get_or b (4 * j + 3) 0)
    (small_a (4 * j) (omega arith)) (small_a (4 * j + 1) (omega arith)) (small_a (4 * j + 2) (omega arith))
    (small_b (4 * j) (omega arith)) (small_b (4 * j + 1) (omega arith)) (small_b (4 * j + 2) (omega arith)))

-- the indices of the bytes of eight words after the words are rotated by two bytes
abbrev pub two_bytes_on : List ℕ
two_bytes_on =
    2 ∷ 3 ∷ 0 ∷ 1 ∷ 6 ∷ 7 ∷ 4 ∷ 5 ∷ 10 ∷ 11 ∷ 8 ∷ 9 ∷ 14 ∷ 15 ∷ 12 ∷ 13
    ∷ 18 ∷ 19 ∷ 16 ∷ 17 ∷ 22 ∷ 23 ∷ 20 ∷ 21 ∷ 26 ∷ 27 ∷ 24 ∷ 25 ∷ 30 ∷ 31 ∷ 28 ∷ 29 ∷ []

-- and by one byte
abbrev pub one_byte_on : List ℕ
one_byte_on =
    3 ∷ 0 ∷ 1 ∷ 2 ∷ 7 ∷ 4 ∷ 5 ∷ 6 ∷ 11 ∷ 8 ∷ 9 ∷ 10 ∷ 15 ∷ 12 ∷ 13 ∷ 14
    ∷ 19 ∷ 16 ∷ 17 ∷ 18 ∷ 23 ∷ 20 ∷ 21 ∷ 22 ∷ 27 ∷ 24 ∷ 25 ∷ 26 ∷ 31 ∷ 28 ∷ 29 ∷ 30 ∷ []

module _ (x : List ℕ) (all : length x ≡ 32) (fits : Each1 (Fits w8) x) where
  small : (k : ℕ) → k < 32 → get_or x k 0 < 256
  small k below = byte_small x fits k (omega (arith, all, below))

  pub rotated_by_16_at : (j : ℕ) → j < 8 → u32_at (pick_l 0 (x ++ x) two_bytes_on) j ≡ rotate_left w32 (u32_at x j) 16
  unfolding u32_at
  rotated_by_16_at j h =
      let row = λ (r : ℕ) (below : r < 8). rotated_by_16 (get_or x (4 * r) 0) (get_or x (4 * r + 1) 0) (get_or x (4 * r + 2) 0) (get_or x (4 * r + 3) 0)
      (small (4 * r) (omega arith)) (small (4 * r + 1) (omega arith)) (small (4 * r + 2) (omega arith)) (small (4 * r + 3) (omega arith)) in
      ap (λ bytes. u32_at bytes j) (pick_l_left 0 x x 32 two_bytes_on all tt)
      ∙ below_eight (λ r. u32_at (pick_l 0 x two_bytes_on) r ≡ rotate_left w32 (u32_at x r) 16)
      (row 0 (omega arith)) (row 1 (omega arith)) (row 2 (omega arith)) (row 3 (omega arith))
      (row 4 (omega arith)) (row 5 (omega arith)) (row 6 (omega arith)) (row 7 (omega arith)) j h

  pub rotated_by_8_at : (j : ℕ) → j < 8 → u32_at (pick_l 0 (x ++ x) one_byte_on) j ≡ rotate_left w32 (u32_at x j) 8
  unfolding u32_at
  rotated_by_8_at j h =
      let row = λ (r : ℕ) (below : r < 8). rotated_by_8 (get_or x (4 * r) 0) (get_or x (4 * r + 1) 0) (get_or x (4 * r + 2) 0) (get_or x (4 * r + 3) 0)
      (small (4 * r) (omega arith)) (small (4 * r + 1) (omega arith)) (small (4 * r + 2) (omega arith)) (small (4 * r + 3) (omega arith)) in
      ap (λ bytes. u32_at bytes j) (pick_l_left 0 x x 32 one_byte_on all tt)
      ∙ below_eight (λ r. u32_at (pick_l 0 x one_byte_on) r ≡ rotate_left w32 (u32_at x r) 8)
      (row 0 (omega arith)) (row 1 (omega arith)) (row 2 (omega arith)) (row 3 (omega arith))
      (row 4 (omega arith)) (row 5 (omega arith)) (row 6 (omega arith)) (row 7 (omega arith)) j h

number_of_four : (xs : List ℕ) → length xs ≡ 4 → number_l 256 xs ≡ word (get_or xs 0 0) (get_or xs 1 0) (get_or xs 2 0) (get_or xs 3 0)
number_of_four [] e = absurd (omega arith)
number_of_four (a ∷ []) e = absurd (omega arith)
number_of_four (a ∷ b ∷ []) e = absurd (omega arith)
number_of_four (a ∷ b ∷ c ∷ []) e = absurd (omega arith)
number_of_four (a ∷ b ∷ c ∷ d ∷ []) e = omega arith
number_of_four (a ∷ b ∷ c ∷ d ∷ x ∷ xs) e = absurd (omega arith)

-- the words of a vector of bytes
pub words_at : (xs : List ℕ) → length xs ≡ 32 → Each1 (Fits w8) xs → (j : ℕ) → j < 8
    → get_or (digits_l 4294967296 8 (number_l 256 xs)) j 0 ≡ u32_at xs j
unfolding u32_at
words_at xs all fits j h =
    let four = chunk (4 * j) 4 xs in
    let at : (i : ℕ) → i < 4 → get_or four i 0 ≡ get_or xs (4 * j + i) 0 = λ i below. get_or-chunk (4 * j) 4 xs i 0 below in
    let first : get_or four 0 0 ≡ get_or xs (4 * j) 0 = at 0 (omega arith) ∙ ap (λ k. get_or xs k 0) (omega arith) in
    get_or_wider 256 4 4294967296 8 xs j refl (below_from_Fits w8 xs fits) h
    ∙ number_of_four four (length-chunk (4 * j) 4 xs (omega arith))
    ∙ rw (first, at 1 (omega arith), at 2 (omega arith), at 3 (omega arith)) refl

-- the bytes of a vector of words
pub bytes_at : (xs : List ℕ) → length xs ≡ 8 → Each1 (Fits w32) xs → (j : ℕ) → j < 8
    → u32_at (digits_l 256 32 (number_l 4294967296 xs)) j ≡ get_or xs j 0
unfolding u32_at
bytes_at xs all fits j h =
    let n = get_or xs j 0 in
    let bytes = digits_l 256 32 (number_l 4294967296 xs) in
    let below = below_from_Fits w32 xs fits in
    let at : (i : ℕ) → i < 4 → get_or bytes (4 * j + i) 0 ≡ n / 256 ^ i % 256
    = λ i low. get_or_narrower 4294967296 4 256 32 xs j i refl below low (omega arith) in
    let place : 4 * j + 0 ≡ 4 * j = omega arith in
    let first : get_or bytes (4 * j) 0 ≡ n % 256
    = subst (λ k. get_or bytes k 0 ≡ n % 256) place (at 0 (omega arith) ∙ ap (λ m. m % 256) (div-one n)) in
    let small : n < 2 ^ 32 = Each1-get_or (λ x. x < 2 ^ 32) xs j 0 (omega arith) below in
    rw (first, at 1 (omega arith), at 2 (omega arith), at 3 (omega arith)) (omega (arith, small))
