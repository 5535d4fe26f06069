use Rattle.trlab_campaign.proofs.Capacities.{diagram_is_triangle, sweeps_go_by_moving_cars}
use Rattle.trlab_campaign.proofs.Capacities.{sweeps_keep_below_peak, sweeps_stay_under_triangle}
use Rattle.trlab_campaign.proofs.laws.sweeps_stay_under_triangle.Goals as goal

pub returns : goal.returns
returns c = record {
  under_triangle = sweeps_stay_under_triangle;
  peak = sweeps_keep_below_peak;
  moving = sweeps_go_by_moving_cars;
  triangle = diagram_is_triangle;
}
