use Rattle.std.proofs.Common.{rules}
use Rattle.trlab_book.proofs.desk.SharedBook.split.Goals as goal

pub invariant_of-desk : goal.invariant_of-desk
invariant_of-desk g c = search rules
