use Rattle.std.proofs.Common.{rules}
use Rattle.trlab_sequential_book.proofs.book.Book.has_full_history.Goals as goal

pub returns : goal.returns
returns c = search rules
