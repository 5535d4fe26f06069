use Rattle.std.proofs.Common.{rules}
use Rattle.trlab_sequential_book.proofs.book.Book.order.Goals as goal

pub returns-clause-reply : goal.returns-clause-reply
returns-clause-reply c = search rules

pub returns-clause-state : goal.returns-clause-state
returns-clause-state c = search rules
