use Rattle.std.proofs.Common.{arith, rules, ◌≡◌, ap, sym, ◌∙◌, subst, true, Some}
use Rattle.trlab_step.specs.Run.{in_force}
use Rattle.trlab_sequential_book.specs.{Machine.{JobState, accepts_lease}, Comparison.{offered, run_seed}}
use Rattle.trlab_sequential_book.proofs.{Booking.{job_state, own_parts}, Entering.begin_more}
use Rattle.trlab_sequential_book.proofs.LeaseRuns.{way_begins, way_suits}
use Rattle.trlab_sequential_book.proofs.job.JobRecord.order.Goals as goal

pub invariant_of-self : goal.invariant_of-self
invariant_of-self c =
    let j = c.self.inside in
    let i = c.self.invariant in
    let l = c.args.lease.now in
    let own : accepts_lease (offered l c.args.runs_its_road) c.args.self.now ≡ true = sym c.accepts_lease.ensures ∙ c.if-not-accepts_lease.false in
    let state = job_state j.seed j.sheet j.steps j.high j.done j.cancelled j.out in
    let P : JobState → Type 0 = λ s. accepts_lease (offered l c.args.runs_its_road) s ≡ true in
    let parts = own_parts (offered l c.args.runs_its_road) state (subst P (sym c.self.view_is) own) in
    let by = parts.1 in
    let high = i.ordered in
    let within = i.within in
    let other = c.if-step-self.false in
    let at = c.step-step.ensures.value in
    let most = c.max-self-inside.ensures in
    record {
      ordered = omega arith;
      within = omega arith;
      begin = begin_more j.high c.max-self-inside.result j.sheet (omega arith) i.begin;
      run = i.run;
    }

pub returns-clause-rule : goal.returns-clause-rule
returns-clause-rule c =
    let seen = ap (λ (s : JobState). in_force s.sheet c.step-step.result) c.self.view_is in
    sym seen ∙ c.entry_in_force-entry.ensures.rule ∙ ap Some (sym c.in_ok-rule.ensures)

pub returns-clause-fits : goal.returns-clause-fits
returns-clause-fits c =
    let j = c.self.inside in
    let l = c.args.lease.now in
    let own : accepts_lease (offered l c.args.runs_its_road) c.args.self.now ≡ true = sym c.accepts_lease.ensures ∙ c.if-not-accepts_lease.false in
    let parts = own_parts (offered l c.args.runs_its_road) c.args.self.now own in
    let state = job_state j.seed j.sheet j.steps j.high j.done j.cancelled j.out in
    let way = way_begins state c.args.self.now l _ j.tally c.self.view_is c.self.invariant.run c.step-step.ensures.lease (c.requires parts.2) parts.0 in
    record {
      job = search rules;
      number = search rules;
      step = search rules;
      rule = way_suits (run_seed c.args.self.now.seed) c.args.self.now.sheet j.done _ j.tally l.applied l.road _ way (returns-clause-rule c);
    }
