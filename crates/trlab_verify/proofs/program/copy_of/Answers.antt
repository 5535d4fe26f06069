use Rattle.std.proofs.Common.{rules}
use Rattle.trlab_verify.proofs.program.copy_of.Goals as goal

pub returns : goal.returns
returns c = search rules
