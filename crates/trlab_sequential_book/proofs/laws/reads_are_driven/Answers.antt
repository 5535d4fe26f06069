use Rattle.trlab_sequential_book.proofs.Reading as lemmas
use Rattle.trlab_sequential_book.proofs.laws.reads_are_driven.Goals as goal

pub returns : goal.returns
returns c = lemmas.reads_are_driven
