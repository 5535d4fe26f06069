use Rattle.std.proofs.Common.{rules}
use Rattle.trlab_sequential_book.proofs.job.JobRecord.read.Goals as goal

pub invariant_of-result : goal.invariant_of-result
invariant_of-result c = search rules
