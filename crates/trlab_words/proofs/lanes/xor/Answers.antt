use Rattle.trlab_words.proofs.ByteLemmas.{xor_at}
use Rattle.trlab_words.proofs.lanes.xor.Goals as goal

pub returns : goal.returns
returns c = xor_at c.args.a c.args.b c.fits-a.0 c.fits-b.0 c.fits-a.1 c.fits-b.1
