use Rattle.trlab_traffic.proofs.Fastest.{randomization_slows_runs, slow_starts_slow_runs}
use Rattle.trlab_traffic.proofs.laws.randomization_slows_runs.Goals as goal

pub returns : goal.returns
returns c = record { nasch = randomization_slows_runs; vdr = slow_starts_slow_runs }
