use Rattle.std.proofs.Common.{ℕ, ap, ◌∙◌, slice_index}
use Rattle.rand_chacha.specs.Block.{diagonal_round}
use Rattle.trlab_words.proofs.block.diagonal_word.Goals.{in-0, in-1, in_default}
use Rattle.trlab_words.proofs.block.diagonal_word.Goals as goal

pub returns : goal.returns
unfolding diagonal_round
returns c j h =
    elim c.match-k.branch [
      | in-0 w ↦ rw (w.result-is, w.in-0.is) (ap (λ (q : ℕ × ℕ × ℕ × ℕ). q.0) (w.quarter_round.ensures j h))
      | in-1 w ↦ rw (w.result-is, w.in-1.is) (ap (λ (q : ℕ × ℕ × ℕ × ℕ). q.0) (w.quarter_round-in-1.ensures j h))
      | in_default w ↦ rw w.result-is (w.word_of.ensures j h ∙ ap (λ x. slice_index x c.args.k) (w.diagonal_round.ensures j h))
    ]
