use Rattle.trlab_machine.proofs.Words.{words_are_not_read}
use Rattle.trlab_machine.proofs.laws.words_are_not_read.Goals as goal

pub returns : goal.returns
returns c = words_are_not_read
