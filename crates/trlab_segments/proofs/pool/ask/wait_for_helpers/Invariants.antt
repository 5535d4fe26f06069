use Rattle.std.{proofs.Common.{◌≡◌}, specs.Arc.arc_value}
use Rattle.trlab_segments.proofs.pool.ask.wait_for_helpers.Given as goal

abbrev pub invariant-loop : goal.invariant-loop
invariant-loop g l = arc_value l.task ≡ arc_value l.initial.task
