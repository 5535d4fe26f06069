use Rattle.trlab_rules.proofs.NaschRuns.{nasch_moves}
use Rattle.trlab_rules.proofs.laws.nasch_is_published.Goals as goal

pub returns : goal.returns
returns c = nasch_moves
