use Rattle.trlab_words.proofs.ByteLemmas.{bytes_at}
use Rattle.trlab_words.proofs.lanes.bytes_of.Goals as goal

pub returns : goal.returns
returns c = bytes_at c.args.words c.fits-words.0 c.fits-words.1
