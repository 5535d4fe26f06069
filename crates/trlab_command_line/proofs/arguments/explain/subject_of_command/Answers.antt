use Rattle.std.proofs.Common.{rules}
use Rattle.trlab_command_line.proofs.arguments.explain.subject_of_command.Goals as goal

pub returns-then-eq-2 : goal.returns-then-eq-2
returns-then-eq-2 c = search rules
