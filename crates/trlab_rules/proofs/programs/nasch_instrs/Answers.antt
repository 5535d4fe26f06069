use Rattle.std.proofs.Common.{rules}
use Rattle.trlab_rules.proofs.programs.nasch_instrs.Goals as goal

pub returns-clause-value : goal.returns-clause-value
returns-clause-value c = search rules
