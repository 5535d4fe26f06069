use Rattle.std.proofs.Common.{rules}
use Rattle.trlab_code.proofs.row.row_of.Goals as goal

pub returns-in-Num : goal.returns-in-Num
returns-in-Num c = search rules
