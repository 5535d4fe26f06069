use Rattle.std.proofs.Common.{rules}
use Rattle.trlab_rules.proofs.rule.Rule.equals.Goals as goal

pub returns-in-Some-Some : goal.returns-in-Some-Some
returns-in-Some-Some c = search rules
