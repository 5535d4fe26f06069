use Rattle.std.proofs.{Common.arith, lemmas.Grind.common_steps}
use Rattle.trlab_code.proofs.row.is_row_of.Goals as goal

pub returns : goal.returns
returns c = grind (arith, common_steps)
