use Rattle.trlab_traffic.proofs.Moving.{run_goes_by_moving_cars, step_goes_by_moving_cars}
use Rattle.trlab_traffic.proofs.laws.moving_speed_is_bounded.Goals as goal

pub returns : goal.returns
returns c = record { step = step_goes_by_moving_cars; run = run_goes_by_moving_cars }
