use Rattle.std.proofs.Common.{refl, subst}
use Rattle.trlab_step.specs.Run.{IsReachedByRun}
use Rattle.trlab_sequential_book.specs.{Comparison.progress_of, Machine.JobState}
use Rattle.trlab_sequential_book.proofs.Booking.{job_state, lent}
use Rattle.trlab_sequential_book.proofs.job.JobRecord.lend.Goals as goal

pub returns-clause-lease : goal.returns-clause-lease
returns-clause-lease c =
    let j = c.self.inside in
    let state = job_state j.seed j.sheet j.steps j.high j.done j.cancelled j.out in
    let run = subst (λ (s : JobState). IsReachedByRun (progress_of s.seed s.sheet s.done j.road j.tally)) c.self.view_is c.self.invariant.run in
    rw c.get-seed.ensures (refl, lent state c.args.self.now c.args.number _ _ _ c.self.view_is run refl refl c.in_ok-base_road.ensures c.new-2.ensures.items refl refl refl refl)
