use Rattle.std.proofs.Common.{rules}
use Rattle.trlab_asm.proofs.assembly.resolve.Goals as goal

pub returns-in-Some-get-clause-value : goal.returns-in-Some-get-clause-value
returns-in-Some-get-clause-value c = search rules
