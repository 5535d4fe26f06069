use Rattle.trlab_traffic.proofs.Relaxation.{nasch_reaches_triangle, nasch_reaches_triangle_by_lane}
use Rattle.trlab_traffic.proofs.laws.nasch_reaches_triangle.Goals as goal

pub returns : goal.returns
returns c = record { one_lane = nasch_reaches_triangle; by_lane = nasch_reaches_triangle_by_lane }
