use Rattle.std.specs.Prelude.{None, Some}
use Rattle.trlab_jobs.proofs.LaterWords.{no_at, no_space, no_step, step_said}
use Rattle.trlab_jobs.proofs.rule_line.read_later_words.Goals as goal

pub returns-in_err-after : goal.returns-in_err-after
returns-in_err-after c = rw c.from_residual.ensures (no_at c.args.line.now c.in_err-after.ensures)

pub returns-in_err-step : goal.returns-in_err-step
returns-in_err-step c = rw c.from_residual-in_err-step.ensures (no_space c.args.line.now c.in_ok-after.field-0 c.in_ok-after.ensures c.in_err-step.ensures)

pub returns-then-not-is_word : goal.returns-then-not-is_word
returns-then-not-is_word c =
    no_step c.args.line.now c.in_ok-after.field-0 c.in_ok-step.step c.in_ok-step.words c.in_ok-after.ensures c.in_ok-step.ensures c.if-not-is_word.ensures

pub returns-in_err-rule : goal.returns-in_err-rule
returns-in_err-rule c =
    rw c.from_residual-in_err-rule.ensures
    (step_said c.args.line.now c.in_ok-after.field-0 c.in_ok-step.step c.in_ok-step.words None c.in_ok-after.ensures c.in_ok-step.ensures c.if-not-is_word.ensures c.in_err-rule.ensures)

pub returns : goal.returns
returns c =
    step_said c.args.line.now c.in_ok-after.field-0 c.in_ok-step.step c.in_ok-step.words (Some c.in_ok-rule.rule) c.in_ok-after.ensures c.in_ok-step.ensures c.if-not-is_word.ensures
    c.in_ok-rule.ensures
