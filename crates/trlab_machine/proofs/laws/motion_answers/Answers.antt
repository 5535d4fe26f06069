use Rattle.trlab_machine.proofs.Speeds.{motion_answers}
use Rattle.trlab_machine.proofs.laws.motion_answers.Goals as goal

pub returns : goal.returns
returns c = motion_answers
