use Rattle.trlab_traffic.proofs.Waves.{acceleration_ends, congested_cars_close_gaps, free_flow_moves_ahead}
use Rattle.trlab_traffic.proofs.Waves.{jams_move_back, pattern_is_periodic}
use Rattle.trlab_traffic.proofs.laws.kinematic_waves.Goals as goal

pub returns : goal.returns
returns c = record { free = free_flow_moves_ahead; jams = jams_move_back; period = pattern_is_periodic; acceleration = acceleration_ends; gaps = congested_cars_close_gaps }
