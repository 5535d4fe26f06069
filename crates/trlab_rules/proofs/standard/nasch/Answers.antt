use Rattle.std.proofs.Common.{rules}
use Rattle.trlab_rules.proofs.standard.nasch.Goals as goal

pub returns-clause-memory : goal.returns-clause-memory
returns-clause-memory c = search rules
