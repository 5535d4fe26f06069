use Rattle.trlab_traffic.proofs.{Clusters.rings_are_clustered, ExactFlow.flow_is_exact}
use Rattle.trlab_traffic.proofs.laws.stationary_flow_is_exact.Goals as goal

pub returns : goal.returns
returns c = record { clusters = rings_are_clustered; flow = flow_is_exact }
