use Rattle.trlab_rules.proofs.VdrRuns.{vdr_moves}
use Rattle.trlab_rules.proofs.laws.vdr_is_published.Goals as goal

pub returns : goal.returns
returns c = vdr_moves
