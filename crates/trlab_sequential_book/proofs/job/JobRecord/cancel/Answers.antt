use Rattle.std.proofs.Common.{rules}
use Rattle.trlab_sequential_book.proofs.job.JobRecord.cancel.Goals as goal

pub returns-clause-reply : goal.returns-clause-reply
returns-clause-reply c = search rules

pub returns-clause-job : goal.returns-clause-job
returns-clause-job c = search rules
