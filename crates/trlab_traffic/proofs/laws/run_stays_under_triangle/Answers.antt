use Rattle.trlab_traffic.proofs.{RoomAhead.taken_or_empty, Capacities.run_stays_under_triangle}
use Rattle.trlab_traffic.proofs.laws.run_stays_under_triangle.Goals as goal

pub returns : goal.returns
returns c = record { cells = taken_or_empty; run = run_stays_under_triangle }
