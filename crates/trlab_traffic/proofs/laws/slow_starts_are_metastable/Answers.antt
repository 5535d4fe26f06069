use Rattle.trlab_traffic.proofs.FreeFlow.{slow_starts_keep_free_flow, slow_starts_keep_jams}
use Rattle.trlab_traffic.proofs.FreeFlow.{slow_starts_turn_free_flow}
use Rattle.trlab_traffic.proofs.laws.slow_starts_are_metastable.Goals as goal

pub returns : goal.returns
returns c = record { free = slow_starts_keep_free_flow; rotated = slow_starts_turn_free_flow; jam = slow_starts_keep_jams }
