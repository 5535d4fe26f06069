use Rattle.std.proofs.{Common.arith, lemmas.Grind.common_steps}
use Rattle.trlab_jobs.proofs.LaterWords.{later_said}
use Rattle.trlab_jobs.proofs.rule_line.read_later_rule_line.Goals as goal

pub returns-clause-value : goal.returns-clause-value
returns-clause-value c =
    later_said c.args.room c.args.steps c.args.least c.args.line.now (c.in-Some.step, c.in-Some.rule) c.in_ok-step.step c.in_ok-from.from c.in_ok-rule.rule
    (rw c.of.ensures at c.in-Some.ensures) c.in_ok-step.ensures c.in_ok-rule.ensures c.in_ok-from.ensures.value

pub returns-clause-rises : goal.returns-clause-rises
returns-clause-rises c = c.in_ok-from.ensures.rises

pub returns-in_default-clause-value : goal.returns-in_default-clause-value
returns-in_default-clause-value c = grind (arith, common_steps)

pub returns-in_err-step-clause-value : goal.returns-in_err-step-clause-value
returns-in_err-step-clause-value c = grind (arith, common_steps)

pub returns-in_err-rule-clause-value : goal.returns-in_err-rule-clause-value
returns-in_err-rule-clause-value c = grind (arith, common_steps)

pub returns-in_err-from-clause-value : goal.returns-in_err-from-clause-value
returns-in_err-from-clause-value c = grind (arith, common_steps)
