-- A key as 32 bytes and as eight words.
use Rattle.std.proofs.Common.{◌≡◌, ℕ, ◌<◌, ◌+◌, ◌*◌, ◌/◌, ◌%◌, ◌^◌, List, All, length, slice_index, get_or}
use Rattle.std.proofs.{Common.{arith, refl, subst}, lemmas.Grind.same_number_lists}
use Rattle.std.proofs.lemmas.List.Elements.{All-get_or}
use Rattle.rand_core.specs.Steps.{u32_at}
use Rattle.rand_chacha.specs.ChaCha.{key_of, seed_of}
use Rattle.trlab_words.proofs.LaneLemmas.{below_four, below_eight}

-- a word is composed of its four bytes
word_from_bytes : (n : ℕ) → n < 2 ^ 32
    → n % 256 + n / 256 % 256 * 2 ^ 8 + n / 65536 % 256 * 2 ^ 16 + n / 16777216 % 256 * 2 ^ 24 ≡ n
word_from_bytes n h = omega arith

-- the four bytes of a word are those from which it is composed
bytes_from_word : (a b c d : ℕ) → a < 256 → b < 256 → c < 256 → d < 256
    → let n = a + b * 2 ^ 8 + c * 2 ^ 16 + d * 2 ^ 24 in
    (n % 256 ≡ a) × (n / 256 % 256 ≡ b) × (n / 65536 % 256 ≡ c) × (n / 16777216 % 256 ≡ d)
bytes_from_word a b c d ha hb hc hd = (omega arith, omega arith, omega arith, omega arith)

-- the words of a key's bytes are the key's words
pub key_of-seed_of : (words : List ℕ) → length words ≡ 8 → All (λ word. word < 2 ^ 32) words
    → key_of (seed_of words) ≡ words
unfolding u32_at
key_of-seed_of words eight small =
    let word : (k : ℕ) → k < 8 → slice_index words k % 256 + slice_index words k / 256 % 256 * 2 ^ 8
    + slice_index words k / 65536 % 256 * 2 ^ 16 + slice_index words k / 16777216 % 256 * 2 ^ 24 ≡ slice_index words k
    = λ k h. word_from_bytes (slice_index words k) (All-get_or (λ word. word < 2 ^ 32) words k 0 (omega arith) small) in
    same_number_lists (key_of (seed_of words)) words (rw eight refl)
    (below_eight (λ k. get_or (key_of (seed_of words)) k 0 ≡ get_or words k 0)
    (word 0 (omega arith)) (word 1 (omega arith)) (word 2 (omega arith)) (word 3 (omega arith))
    (word 4 (omega arith)) (word 5 (omega arith)) (word 6 (omega arith)) (word 7 (omega arith)))

-- the bytes of a key's words are the key's bytes
pub seed_of-key_of : (bytes : List ℕ) → length bytes ≡ 32 → ((k : ℕ) → slice_index bytes k < 256)
    → seed_of (key_of bytes) ≡ bytes
unfolding u32_at
seed_of-key_of bytes all small =
    let at = λ (k : ℕ). slice_index bytes k in
    let row : (r : ℕ) → r < 8 → (λ (n : ℕ). (n % 256 ≡ at (4 * r)) × (n / 256 % 256 ≡ at (4 * r + 1))
    × (n / 65536 % 256 ≡ at (4 * r + 2)) × (n / 16777216 % 256 ≡ at (4 * r + 3))) (u32_at bytes r)
    = λ r h. bytes_from_word (at (4 * r)) (at (4 * r + 1)) (at (4 * r + 2)) (at (4 * r + 3))
    (small _) (small _) (small _) (small _) in
    let P : ℕ → Type 0 = λ k. get_or (seed_of (key_of bytes)) k 0 ≡ get_or bytes k 0 in
    let four : (F : ℕ → Type 0) → F 0 × F 1 × F 2 × F 3 → (col : ℕ) → col < 4 → F col
    = λ F p. below_four F p.0 p.1 p.2 p.3 in
    let place : (k : ℕ) → 4 * (k / 4) + k % 4 ≡ k = λ k. omega arith in
    same_number_lists (seed_of (key_of bytes)) bytes (rw all refl) (λ k h.
    subst P (place k) (below_eight (λ r. (col : ℕ) → col < 4 → P (4 * r + col))
    (four (λ col. P (0 + col)) (row 0 (omega arith)))
    (four (λ col. P (4 + col)) (row 1 (omega arith)))
    (four (λ col. P (8 + col)) (row 2 (omega arith)))
    (four (λ col. P (12 + col)) (row 3 (omega arith)))
    (four (λ col. P (16 + col)) (row 4 (omega arith)))
    (four (λ col. P (20 + col)) (row 5 (omega arith)))
    (four (λ col. P (24 + col)) (row 6 (omega arith)))
    (four (λ col. P (28 + col)) (row 7 (omega arith)))
    (k / 4) (omega arith) (k % 4) (omega arith)))
