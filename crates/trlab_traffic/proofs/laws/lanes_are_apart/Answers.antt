use Rattle.trlab_traffic.proofs.Influence.{run_keeps_lanes_apart, step_keeps_lanes_apart}
use Rattle.trlab_traffic.proofs.laws.lanes_are_apart.Goals as goal

pub returns : goal.returns
returns c = record { step = step_keeps_lanes_apart; run = run_keeps_lanes_apart }
