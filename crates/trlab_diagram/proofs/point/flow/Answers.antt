use Rattle.std.proofs.Common.{rules}
use Rattle.trlab_diagram.proofs.point.flow.Goals as goal

pub returns : goal.returns
returns c = search rules
