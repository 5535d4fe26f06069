use Rattle.trlab_notes.proofs.Order.{join_first, join_second, join_most}
use Rattle.trlab_notes.proofs.laws.join_is_strongest.Goals as goal

pub returns-clause-first : goal.returns-clause-first
returns-clause-first c = join_first

pub returns-clause-second : goal.returns-clause-second
returns-clause-second c = join_second

pub returns-clause-most : goal.returns-clause-most
returns-clause-most c = join_most
