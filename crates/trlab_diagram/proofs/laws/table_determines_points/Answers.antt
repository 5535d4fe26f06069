use Rattle.trlab_diagram.proofs.Telling.{table_determines_points}
use Rattle.trlab_diagram.proofs.laws.table_determines_points.Goals as goal

pub returns : goal.returns
returns c = table_determines_points
