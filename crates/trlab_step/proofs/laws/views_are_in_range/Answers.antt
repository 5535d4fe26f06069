use Rattle.trlab_step.proofs.SafeCalls.{views_in_range}
use Rattle.trlab_step.proofs.laws.views_are_in_range.Goals as goal

pub returns : goal.returns
returns c = views_in_range
