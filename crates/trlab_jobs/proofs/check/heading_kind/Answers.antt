use Rattle.std.proofs.Common.{rules}
use Rattle.trlab_jobs.proofs.check.heading_kind.Goals as goal

pub returns-then-is_heading-2 : goal.returns-then-is_heading-2
returns-then-is_heading-2 c = search rules
