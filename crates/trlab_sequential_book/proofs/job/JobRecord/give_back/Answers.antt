use Rattle.std.proofs.Common.{◌≡◌, true, ap, refl, subst, sym, ◌∙◌}
use Rattle.trlab_step.specs.Run.{IsReachedByRun}
use Rattle.trlab_sequential_book.specs.Comparison.{offered, progress_of}
use Rattle.trlab_sequential_book.specs.Machine.{JobState, JobOutcome, accepts_lease}
use Rattle.trlab_sequential_book.proofs.Booking.{job_state, back_made, back_refused, back_taken, own_parts}
use Rattle.trlab_sequential_book.proofs.job.JobRecord.give_back.Goals as goal

pub returns-then-not-accepts_lease-clause-reply : goal.returns-then-not-accepts_lease-clause-reply
returns-then-not-accepts_lease-clause-reply c =
    sym (ap (λ (o : JobOutcome). o.reply) (back_refused (offered c.args.lease c.args.runs_its_road) c.args.self.now (sym c.accepts_lease.ensures ∙ c.if-not-accepts_lease.true)))

pub returns-then-not-accepts_lease-clause-job : goal.returns-then-not-accepts_lease-clause-job
returns-then-not-accepts_lease-clause-job c =
    sym (ap (λ (o : JobOutcome). o.job) (back_refused (offered c.args.lease c.args.runs_its_road) c.args.self.now (sym c.accepts_lease.ensures ∙ c.if-not-accepts_lease.true)))

pub returns-then-not-accepts_lease-clause-returned : goal.returns-then-not-accepts_lease-clause-returned
returns-then-not-accepts_lease-clause-returned c = refl

pub tally_with-self-inside-requires-clause-base : goal.tally_with-self-inside-requires-clause-base
tally_with-self-inside-requires-clause-base c =
    (own_parts (offered c.args.lease c.args.runs_its_road) c.args.self.now (sym c.accepts_lease.ensures ∙ c.if-not-accepts_lease.false)).0

pub tally_with-self-inside-requires-clause-own : goal.tally_with-self-inside-requires-clause-own
tally_with-self-inside-requires-clause-own c =
    c.requires (own_parts (offered c.args.lease c.args.runs_its_road) c.args.self.now (sym c.accepts_lease.ensures ∙ c.if-not-accepts_lease.false)).2

pub invariant_of-self : goal.invariant_of-self
invariant_of-self c =
    let j = c.self.inside in
    let lease = c.args.lease in
    let state = job_state j.seed j.sheet j.steps j.high j.done j.cancelled j.out in
    let own : accepts_lease (offered lease c.args.runs_its_road) c.args.self.now ≡ true = sym c.accepts_lease.ensures ∙ c.if-not-accepts_lease.false in
    let parts = own_parts (offered lease c.args.runs_its_road) state (subst (λ (s : JobState). accepts_lease (offered lease c.args.runs_its_road) s ≡ true) (sym c.self.view_is) own) in
    rw (c.step-self-inside.ensures.value, c.come_to.ensures, c.into_road.ensures) (record {
      ordered = parts.1;
      within = c.self.invariant.within;
      begin = c.self.invariant.begin;
      run = subst (λ (s : JobState). IsReachedByRun (progress_of s.seed s.sheet lease.step lease.road c.tally_with-self-inside.result)) (sym c.self.view_is) c.tally_with-self-inside.ensures;
    })

pub returns-clause-reply : goal.returns-clause-reply
returns-clause-reply c = back_taken (offered c.args.lease c.args.runs_its_road) c.args.self.now (sym c.accepts_lease.ensures ∙ c.if-not-accepts_lease.false)

pub returns-clause-job : goal.returns-clause-job
returns-clause-job c =
    let j = c.self.inside in
    let state = job_state j.seed j.sheet j.steps j.high j.done j.cancelled j.out in
    back_made (offered c.args.lease c.args.runs_its_road) state c.args.self.now c.step-self-inside.result c.self.view_is (sym c.accepts_lease.ensures ∙ c.if-not-accepts_lease.false) c.step-self-inside.ensures.value
