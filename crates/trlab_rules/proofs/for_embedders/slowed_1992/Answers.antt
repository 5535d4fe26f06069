use Rattle.std.proofs.Common.{rules}
use Rattle.trlab_rules.proofs.for_embedders.slowed_1992.Goals as goal

pub returns-clause-wording : goal.returns-clause-wording
returns-clause-wording c = search rules
