use Rattle.trlab_jobs.proofs.LaterLines.{ReadSoFar}
use Rattle.trlab_jobs.proofs.rule.later_rules.Given as goal

abbrev pub invariant-loop-alloc : goal.invariant-loop-alloc
invariant-loop-alloc l = ReadSoFar l.lanes.count l.steps l.fn.rest l.later.items l.room l.least l.rest

abbrev pub decreases-loop-alloc : goal.decreases-loop-alloc
decreases-loop-alloc l = l.room
