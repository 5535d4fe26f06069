use Rattle.trlab_traffic.proofs.Classification.{rule_184_classifies_density}
use Rattle.trlab_traffic.proofs.laws.rule_184_classifies_density.Goals as goal

pub returns : goal.returns
returns c = rule_184_classifies_density
