use Rattle.trlab_traffic.proofs.Capacities.{step_stays_under_triangle}
use Rattle.trlab_traffic.proofs.laws.step_stays_under_triangle.Goals as goal

pub returns : goal.returns
returns c = step_stays_under_triangle
