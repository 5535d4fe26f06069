use Rattle.rand_chacha.specs.Block.{column_round}
use Rattle.trlab_words.proofs.block.column_round.Goals as goal

pub returns : goal.returns
unfolding column_round
returns c j h =
    rw (
      ← c.quarter_round_on.ensures j h,
      ← c.quarter_round_on-2.ensures j h,
      ← c.quarter_round_on-3.ensures j h,
      ← c.quarter_round_on-4.ensures j h,
    )
