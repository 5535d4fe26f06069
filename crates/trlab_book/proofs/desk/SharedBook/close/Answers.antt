use Rattle.std.proofs.Common.{rules}
use Rattle.trlab_book.proofs.desk.SharedBook.close.Goals as goal

pub returns-clause-err : goal.returns-clause-err
returns-clause-err g c = search rules
