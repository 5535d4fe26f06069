use Rattle.std.proofs.Common.{rules}
use Rattle.trlab_sequential_book.proofs.book.has_all_jobs.Goals as goal

pub returns : goal.returns
returns c = search rules
