use Rattle.trlab_texts.proofs.Said.{number_line, number_again}
use Rattle.trlab_texts.proofs.laws.numbers_are_as_written.Goals as goal

pub returns : goal.returns
returns c = λ name text low high n small. (number_line name text low high n, λ say. rw say.0 (number_again name low high n small say.1 say.2))
