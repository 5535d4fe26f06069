use Rattle.trlab_words.proofs.LaneLemmas.{shifts_rotate}
use Rattle.trlab_words.proofs.lanes.xor_rotate.Goals as goal

pub returns : goal.returns
returns c = shifts_rotate 8 c.args.k c.requires.0 c.requires.1 c.args.a c.fits-a.0 c.args.b c.fits-b.0
