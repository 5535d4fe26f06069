use Rattle.trlab_traffic.proofs.{Relaxation.gap_reaches_triangle, Sooner.queue_reaches_triangle_no_sooner}
use Rattle.trlab_traffic.proofs.laws.gap_reaches_triangle.Goals as goal

pub returns : goal.returns
returns c = record { triangle = gap_reaches_triangle; no_sooner = queue_reaches_triangle_no_sooner }
