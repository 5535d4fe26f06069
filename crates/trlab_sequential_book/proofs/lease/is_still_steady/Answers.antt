use Rattle.std.proofs.Common.{rules}
use Rattle.trlab_sequential_book.proofs.lease.is_still_steady.Goals as goal

pub returns-else-is_steady : goal.returns-else-is_steady
returns-else-is_steady c = search rules
