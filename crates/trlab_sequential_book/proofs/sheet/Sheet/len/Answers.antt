use Rattle.std.proofs.Common.{rules}
use Rattle.trlab_sequential_book.proofs.sheet.Sheet.len.Goals as goal

pub returns-clause-value : goal.returns-clause-value
returns-clause-value c = search (rules, c.len.ensures)
