use Rattle.std.proofs.Common.{refl}
use Rattle.trlab_sequential_book.proofs.laws.limits.Goals as goal

pub returns-clause-jobs : goal.returns-clause-jobs
returns-clause-jobs c = refl

pub returns-clause-entries : goal.returns-clause-entries
returns-clause-entries c = refl

pub returns-clause-events : goal.returns-clause-events
returns-clause-events c = refl
