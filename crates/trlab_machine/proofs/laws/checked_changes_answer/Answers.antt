use Rattle.trlab_machine.proofs.Crossings.{checked_change_answers}
use Rattle.trlab_machine.proofs.laws.checked_changes_answer.Goals as goal

pub returns : goal.returns
returns c = checked_change_answers
