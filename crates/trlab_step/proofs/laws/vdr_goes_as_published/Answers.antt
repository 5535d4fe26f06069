use Rattle.trlab_step.proofs.PublishedLaws.{vdr_on_cells}
use Rattle.trlab_step.proofs.laws.vdr_goes_as_published.Goals as goal

pub returns : goal.returns
returns c = vdr_on_cells
