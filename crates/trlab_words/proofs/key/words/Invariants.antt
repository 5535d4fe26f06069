use Rattle.std.proofs.Common.{◌≡◌, ◌<◌, ◌^◌, ◌+◌, ◌*◌, ℕ, get_or}
use Rattle.rand_chacha.specs.ChaCha.{key_of}
use Rattle.trlab_words.specs.Words.{random_word}
use Rattle.trlab_words.proofs.key.words.Given as goal

abbrev pub invariant-loop-word : goal.invariant-loop-word
invariant-loop-word l = record {
  key : l.generator.key ≡ key_of l.key.0;
  stream : l.generator.stream ≡ l.road * 2 ^ 32 + l.car;
  place : l.generator.word_pos ≡ 16 * l.step + l.word-index;
  so_far : (k : ℕ) → k < l.word-index → get_or l.word-items k 0 ≡ random_word l.key.0 l.road l.car l.step k;
}
