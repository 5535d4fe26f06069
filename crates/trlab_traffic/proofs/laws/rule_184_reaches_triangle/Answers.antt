use Rattle.trlab_traffic.proofs.Relaxation.{rule_184_reaches_triangle}
use Rattle.trlab_traffic.proofs.laws.rule_184_reaches_triangle.Goals as goal

pub returns : goal.returns
returns c = rule_184_reaches_triangle
