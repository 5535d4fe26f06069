use Rattle.trlab_rules.proofs.RickertRuns.{rickert_changes}
use Rattle.trlab_rules.proofs.laws.rickert_is_published.Goals as goal

pub returns : goal.returns
returns c = rickert_changes
