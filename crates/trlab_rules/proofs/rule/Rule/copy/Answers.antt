use Rattle.std.proofs.Common.{rules}
use Rattle.trlab_rules.proofs.rule.Rule.copy.Goals as goal

pub returns : goal.returns
returns c = search rules
