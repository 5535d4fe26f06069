use Rattle.trlab_step.proofs.PublishedLaws.{rickert_on_cells}
use Rattle.trlab_step.proofs.laws.rickert_goes_as_published.Goals as goal

pub returns : goal.returns
returns c = rickert_on_cells
