use Rattle.std.proofs.Common.{rules}
use Rattle.trlab_command_line.proofs.arguments.explain.explain_request.Goals as goal

pub returns-in_default : goal.returns-in_default
returns-in_default c = search rules

pub returns-in-Some-default-None : goal.returns-in-Some-default-None
returns-in-Some-default-None c = search rules

pub returns-in-None-Some-None : goal.returns-in-None-Some-None
returns-in-None-Some-None c = search rules
