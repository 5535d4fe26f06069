use Rattle.trlab_traffic.proofs.Gaps.{car_without_gap_stops}
use Rattle.trlab_traffic.proofs.laws.car_without_gap_stops.Goals as goal

pub returns : goal.returns
returns c = car_without_gap_stops
