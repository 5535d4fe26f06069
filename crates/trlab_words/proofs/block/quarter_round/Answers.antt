use Rattle.std.proofs.Common.{refl}
use Rattle.rand_chacha.specs.Block.{quarter_round}
use Rattle.trlab_words.proofs.block.quarter_round.Goals as goal

pub returns : goal.returns
unfolding quarter_round
returns c j h =
    rw (
      c.xor_rotate-b2.ensures j h,
      c.add-c2.ensures j h,
      c.words_of-2.ensures j h,
      c.rotate_by_8-d2.ensures j h,
      c.xor-2.ensures j h,
      c.bytes_of-2.ensures j h,
      c.add-a2.ensures j h,
      c.xor_rotate-b1.ensures j h,
      c.add-c1.ensures j h,
      c.words_of.ensures j h,
      c.rotate_by_16-d1.ensures j h,
      c.xor.ensures j h,
      c.bytes_of.ensures j h,
      c.add-a1.ensures j h,
    ) refl
