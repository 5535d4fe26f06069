use Rattle.trlab_step.proofs.PublishedLaws.{nasch_on_cells}
use Rattle.trlab_step.proofs.laws.nasch_goes_as_published.Goals as goal

pub returns : goal.returns
returns c = nasch_on_cells
