use Rattle.std.proofs.Common.{rules, ap, length, subst, sym}
use Rattle.trlab_step.specs.Run.{IsRuleFor, IsSheet}
use Rattle.trlab_sequential_book.specs.{Machine.{JobState, JobOutcome}, Comparison.run_seed}
use Rattle.trlab_sequential_book.proofs.Entering.{begin_entered, rule_taken, underway_entered}
use Rattle.trlab_sequential_book.proofs.job.JobRecord.replace.Goals as goal

pub invariant_of-self-2 : goal.invariant_of-self-2
invariant_of-self-2 c =
    let j = c.self.inside in
    let i = c.self.invariant in
    let rule = subst (λ (s : JobState). IsRuleFor (length s.seed.road.lanes) c.args.rule) (sym c.self.view_is) c.in_ok-check_rule.ensures.rule in
    let is = subst IsSheet c.in_ok-enter.ensures.ok.0 c.in_ok-enter.ensures.ok.2 in
    rw c.in_ok-enter.ensures.ok.0 (record {
      ordered = i.ordered;
      within = i.within;
      begin = begin_entered j.high c.args.rule j.sheet;
      run = underway_entered (run_seed j.seed) j.sheet j.high c.args.rule j.done _ j.tally i.ordered rule is i.run;
    })

pub enter-requires : goal.enter-requires
enter-requires c = c.self.invariant.begin

pub returns-in_err-enter-clause-reply : goal.returns-in_err-enter-clause-reply
returns-in_err-enter-clause-reply c = search rules

pub returns-in_err-enter-clause-job : goal.returns-in_err-enter-clause-job
returns-in_err-enter-clause-job c = search rules

pub returns-clause-reply : goal.returns-clause-reply
returns-clause-reply c =
    let admitted = c.in_ok-check_rule.ensures.ok in
    let entered = c.in_ok-enter.ensures.ok in
    ap (λ (o : JobOutcome). o.reply) (rule_taken _ c.args.self.now c.args.rule _ c.self.view_is admitted.0 admitted.1 entered.0 entered.1)

pub returns-clause-job : goal.returns-clause-job
returns-clause-job c =
    let admitted = c.in_ok-check_rule.ensures.ok in
    let entered = c.in_ok-enter.ensures.ok in
    ap (λ (o : JobOutcome). o.job) (rule_taken _ c.args.self.now c.args.rule _ c.self.view_is admitted.0 admitted.1 entered.0 entered.1)
