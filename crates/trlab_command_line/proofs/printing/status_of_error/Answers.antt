use Rattle.std.proofs.Common.{rules}
use Rattle.trlab_command_line.proofs.printing.status_of_error.Goals as goal

pub returns-in_default : goal.returns-in_default
returns-in_default c = search rules
