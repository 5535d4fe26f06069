use Rattle.trlab_machine.proofs.Answers.{one_answer}
use Rattle.trlab_machine.proofs.laws.one_answer.Goals as goal

pub returns : goal.returns
returns c = one_answer
