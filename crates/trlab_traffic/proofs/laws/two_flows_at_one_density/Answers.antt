use Rattle.trlab_traffic.proofs.Speeding.{two_flows_at_one_density}
use Rattle.trlab_traffic.proofs.laws.two_flows_at_one_density.Goals as goal

pub returns : goal.returns
returns c = two_flows_at_one_density
