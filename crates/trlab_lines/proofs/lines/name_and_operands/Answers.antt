use Rattle.std.proofs.Common.{rules}
use Rattle.trlab_lines.proofs.lines.name_and_operands.Goals as goal

pub returns : goal.returns
returns c = search rules
