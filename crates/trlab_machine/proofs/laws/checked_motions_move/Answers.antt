use Rattle.trlab_machine.proofs.Speeds.{checked_motion_moves}
use Rattle.trlab_machine.proofs.laws.checked_motions_move.Goals as goal

pub returns : goal.returns
returns c = checked_motion_moves
