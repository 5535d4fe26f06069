-- The sixteen random words, one by one.
use Rattle.std.proofs.Common.{◌≡◌, ℕ, ◌<◌, ◌^◌, List, length, inl, inr, arith, slice_index}
use Rattle.std.proofs.lemmas.List.{get_or_past, FromFn.{length-map-range_with_len, get_or-map-range_with_len}}
use Rattle.std.proofs.lemmas.Bool.{cases_lt}
use Rattle.rand_chacha.specs.Block.{block_word}
use Rattle.trlab_words.specs.Words.{random_word, random_words}

module _ (key : List ℕ) (road car step : ℕ) where
  -- there are sixteen
  pub length-random_words : length (random_words key road car step) ≡ 16
  unfolding random_words
  length-random_words = length-map-range_with_len (random_word key road car step) 0 16

  -- each is the word of its number
  pub slice_index-random_words : (k : ℕ) → k < 16 → slice_index (random_words key road car step) k ≡ random_word key road car step k
  unfolding random_words
  slice_index-random_words k below = get_or-map-range_with_len (random_word key road car step) 0 16 k k 0 below (omega arith)

  -- each is a word of 32 bits
  pub random_word_small : (k : ℕ) → random_word key road car step k < 2 ^ 32
  unfolding block_word
  random_word_small k = omega arith

  pub random_words_small : (k : ℕ) → slice_index (random_words key road car step) k < 2 ^ 32
  random_words_small k =
      elim (cases_lt k 16) [
        | inl low ↦ rw (slice_index-random_words k low) (random_word_small k)
        | inr past ↦ rw (get_or_past (random_words key road car step) k 0 (omega (arith, past, length-random_words))) (omega arith)
      ]
