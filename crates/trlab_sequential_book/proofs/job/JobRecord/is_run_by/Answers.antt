use Rattle.std.proofs.{Common.{ap, subst, sym, ◌∙◌}, lemmas.Bool.{false≢true}}
use Rattle.trlab_step.specs.Run.{IsReachedByRun}
use Rattle.trlab_sequential_book.specs.{declared.seed.Seed.Seed, Comparison.progress_of, Machine.JobState}
use Rattle.trlab_sequential_book.proofs.Booking.{job_state, runs_not, runs_where}
use Rattle.trlab_sequential_book.proofs.job.JobRecord.is_run_by.Goals as goal

pub returns-then-not-equals : goal.returns-then-not-equals
returns-then-not-equals c =
    let j = c.self.inside in
    let state = job_state j.seed j.sheet j.steps j.high j.done j.cancelled j.out in
    let run = subst (λ (s : JobState). IsReachedByRun (progress_of s.seed s.sheet s.done j.road j.tally)) c.self.view_is c.self.invariant.run in (
      λ h. absurd (false≢true h),
      λ own. absurd (runs_not state c.args.self.now c.args.lease.now _ _ c.self.view_is run
          (λ same. false≢true (sym c.if-not-equals.true ∙ c.equals.ensures.1 (c.base_road.ensures ∙ same ∙ sym c.get.ensures))) own),
    )

pub returns : goal.returns
returns c =
    let j = c.self.inside in
    let state = job_state j.seed j.sheet j.steps j.high j.done j.cancelled j.out in
    let run = subst (λ (s : JobState). IsReachedByRun (progress_of s.seed s.sheet s.done j.road j.tally)) c.self.view_is c.self.invariant.run in
    let rules = rw (c.base_step.ensures, c.applied.ensures.value) at c.are_in_force.ensures in
    runs_where state c.args.self.now c.args.lease.now _ _ c.are_in_force.result c.self.view_is run
    (sym c.key.ensures ∙ c.is_same_key.ensures.0 c.if-not-is_same_key.false ∙ ap (λ (s : Seed). s.key) c.get-seed.ensures)
    (sym c.road_number.ensures ∙ c.if-road_number-seed.false ∙ ap (λ (s : Seed). s.number) c.get-seed.ensures)
    (sym c.base_road.ensures ∙ c.equals.ensures.0 c.if-not-equals.false ∙ c.get.ensures) rules
