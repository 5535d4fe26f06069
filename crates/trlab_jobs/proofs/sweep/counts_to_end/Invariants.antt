use Rattle.std.proofs.Common.{◌≤◌, ◌+◌, ◌-◌}
use Rattle.trlab_jobs.{specs.declared.limits.TheConstants.MAX_POINTS, proofs.CountLines.ReadSoFar}
use Rattle.trlab_jobs.proofs.sweep.counts_to_end.Given as goal

abbrev pub invariant-loop-rest : goal.invariant-loop-rest
invariant-loop-rest l = record {
  so_far : ReadSoFar l.cells l.steps l.fn.rest l.counts.items l.point l.rest;
  few : l.point ≤ MAX_POINTS + 1;
}

abbrev pub decreases-loop-rest : goal.decreases-loop-rest
decreases-loop-rest l = MAX_POINTS + 1 - l.point
