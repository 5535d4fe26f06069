use Rattle.trlab_machine.proofs.Crossings.{change_answers}
use Rattle.trlab_machine.proofs.laws.change_answers.Goals as goal

pub returns : goal.returns
returns c = change_answers
