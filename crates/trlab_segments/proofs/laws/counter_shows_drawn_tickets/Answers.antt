use Rattle.trlab_segments.proofs.Steps.{bounded, all_tickets}
use Rattle.trlab_segments.proofs.laws.counter_shows_drawn_tickets.Goals as goal

pub returns-clause-bounded : goal.returns-clause-bounded
returns-clause-bounded c = bounded

pub returns-clause-all : goal.returns-clause-all
returns-clause-all c = all_tickets
