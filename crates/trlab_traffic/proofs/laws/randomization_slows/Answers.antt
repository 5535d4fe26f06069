use Rattle.trlab_traffic.proofs.Slower.{randomization_slows, slow_starts_slow}
use Rattle.trlab_traffic.proofs.laws.randomization_slows.Goals as goal

pub returns : goal.returns
returns c = record { nasch = randomization_slows; vdr = slow_starts_slow }
