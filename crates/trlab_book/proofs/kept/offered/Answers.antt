use Rattle.std.proofs.Common.{rules}
use Rattle.trlab_book.proofs.kept.offered.Goals as goal

pub returns : goal.returns
returns c = search rules
