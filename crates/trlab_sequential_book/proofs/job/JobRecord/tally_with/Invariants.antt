use Rattle.std.proofs.Common.{◌≡◌, ◌+◌, drop}
use Rattle.trlab_sequential_book.{specs.Comparison.run_seed, proofs.LeaseRuns.WayOn}
use Rattle.trlab_sequential_book.proofs.job.JobRecord.tally_with.Given as goal

abbrev pub invariant-loop-ran : goal.invariant-loop-ran
invariant-loop-ran l =
    (l.step ≡ l.lease.base.step + l.ran-index)
    × WayOn (run_seed l.self.seed) l.self.sheet l.step l.sum (drop l.ran-index l.lease.applied) l.lease.road
