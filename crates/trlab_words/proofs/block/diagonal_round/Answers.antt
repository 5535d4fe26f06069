use Rattle.rand_chacha.specs.Block.{diagonal_round}
use Rattle.trlab_words.proofs.block.diagonal_round.Goals as goal

pub returns : goal.returns
unfolding diagonal_round
returns c j h =
    rw (
      ← c.quarter_round-p.ensures j h,
      ← c.quarter_round-q.ensures j h,
      ← c.quarter_round-r.ensures j h,
      ← c.quarter_round-s.ensures j h,
    )
