use Rattle.trlab_traffic.proofs.Moving.{run_changes_few, step_changes_few}
use Rattle.trlab_traffic.proofs.laws.few_cars_change_lanes.Goals as goal

pub returns : goal.returns
returns c = record { step = step_changes_few; run = run_changes_few }
