use Rattle.trlab_words.proofs.ByteLemmas.{words_at}
use Rattle.trlab_words.proofs.lanes.words_of.Goals as goal

pub returns : goal.returns
returns c = words_at c.args.bytes c.fits-bytes.0 c.fits-bytes.1
