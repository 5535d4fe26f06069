use Rattle.std.proofs.Common.{rules}
use Rattle.trlab_book.proofs.for_embedders.advance.Goals as goal

pub returns-clause-ok : goal.returns-clause-ok
returns-clause-ok g c = search rules

pub returns-clause-unchanged : goal.returns-clause-unchanged
returns-clause-unchanged g c = search rules

pub returns-clause-wrong : goal.returns-clause-wrong
returns-clause-wrong g c = search rules
