use Rattle.trlab_traffic.proofs.Braking.{braking_costs_runs, braking_costs_runs_with_lane_changes}
use Rattle.trlab_traffic.proofs.Braking.{braking_costs_runs_with_slow_starts, braking_costs_steps}
use Rattle.trlab_traffic.proofs.Braking.{braking_costs_steps_with_lane_changes, each_run_has_braked}
use Rattle.trlab_traffic.proofs.laws.braking_costs_distance.Goals as goal

pub returns : goal.returns
returns c = record { step = braking_costs_steps; exists = each_run_has_braked; nasch = braking_costs_runs; vdr = braking_costs_runs_with_slow_starts; lane_changes = braking_costs_steps_with_lane_changes; rickert = braking_costs_runs_with_lane_changes }
