use Rattle.trlab_words.proofs.ByteLemmas.{rotated_by_8_at}
use Rattle.trlab_words.proofs.lanes.rotate_by_8.Goals as goal

pub returns : goal.returns
returns c = rotated_by_8_at c.args.x c.fits-x.0 c.fits-x.1
