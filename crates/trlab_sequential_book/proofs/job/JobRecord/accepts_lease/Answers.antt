use Rattle.std.proofs.Common.{rules}
use Rattle.trlab_sequential_book.proofs.job.JobRecord.accepts_lease.Goals as goal

pub returns-in-None : goal.returns-in-None
returns-in-None c = search rules
