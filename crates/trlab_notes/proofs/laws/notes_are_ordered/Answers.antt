use Rattle.trlab_notes.proofs.Order.{same_note, through}
use Rattle.trlab_notes.proofs.laws.notes_are_ordered.Goals as goal

pub returns-clause-itself : goal.returns-clause-itself
returns-clause-itself c = same_note

pub returns-clause-through : goal.returns-clause-through
returns-clause-through c = through
