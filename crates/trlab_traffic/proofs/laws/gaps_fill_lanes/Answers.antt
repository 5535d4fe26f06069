use Rattle.trlab_traffic.proofs.Gaps.{gaps_fill_lane, run_keeps_lane_cars}
use Rattle.trlab_traffic.proofs.laws.gaps_fill_lanes.Goals as goal

pub returns : goal.returns
returns c = record { gaps = gaps_fill_lane; cars = run_keeps_lane_cars }
