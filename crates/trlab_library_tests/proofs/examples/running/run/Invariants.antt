use Rattle.std.proofs.Common.{◌-◌}
use Rattle.trlab_library_tests.proofs.examples.running.run.Given as goal

abbrev pub decreases-loop-alloc : goal.decreases-loop-alloc
decreases-loop-alloc l = l.lease.steps - l.lease.step
