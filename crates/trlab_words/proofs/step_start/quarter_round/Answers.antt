use Rattle.std.proofs.Common.{refl}
use Rattle.rand_chacha.specs.Block.{quarter_round}
use Rattle.trlab_words.proofs.step_start.quarter_round.Goals as goal

pub returns : goal.returns
unfolding quarter_round
returns c =
    rw (
      c.rotate_left-b2.ensures,
      c.rotate_left-d2.ensures,
      c.rotate_left-b1.ensures,
      c.rotate_left-d1.ensures,
    ) refl
