use Rattle.std.proofs.Common.{length, subst, rules, Ok, Err}
use Rattle.trlab_rules.specs.Rules.{Programs}
use Rattle.trlab_step.specs.Run.{Sheet}
use Rattle.trlab_texts.specs.Reading.{Rest, Reports, line, exactly}
use Rattle.trlab_texts.proofs.Readings.{line_by, stops, handed_on}
use Rattle.trlab_jobs.specs.{RuleParts.{rule, later_rules}, Job.{Job, steps_line}}
use Rattle.trlab_jobs.proofs.JobLines.{after_lanes, after_rule, after_steps, after_all, behind_rule}
use Rattle.trlab_jobs.proofs.{JobLines.{behind_steps, behind_all, ends_in_fault}, OneText.rules_stored}
use Rattle.trlab_jobs.proofs.job.read_rules.Goals as goal

pub returns-in_err-first : goal.returns-in_err-first
returns-in_err-first c =
    let fault = handed_on c.from_residual.result c.in_err-first.field-0.0 c.from_residual.ensures.0 c.from_residual.ensures.1 in
    let told = subst (λ n. Reports {A = Programs × Rest} (rule n c.args.rest) (Err c.in_err-first.field-0.0)) c.lanes.ensures.value c.in_err-first.ensures.reported in
    record {
      reported = rw fault (ends_in_fault (after_lanes c.args.key c.args.road) c.args.rest c.in_err-first.field-0.0
          (stops (rule (length c.args.road.lanes)) (after_rule c.args.key c.args.road) c.args.rest c.in_err-first.field-0.0 told));
      stored = rw fault tt;
    }

pub returns-in_err-steps : goal.returns-in_err-steps
returns-in_err-steps c =
    let fault = handed_on c.from_residual-in_err-steps.result c.in_err-steps.field-0.0 c.from_residual-in_err-steps.ensures.0 c.from_residual-in_err-steps.ensures.1 in
    let first = rw c.lanes.ensures.value at c.in_ok-first.ensures.reported in
    record {
      reported = rw fault (ends_in_fault (after_lanes c.args.key c.args.road) c.args.rest c.in_err-steps.field-0.0
          (behind_rule c.args.key c.args.road c.in_ok-first.first c.args.rest c.in_ok-first.rest (Err c.in_err-steps.field-0.0) first
          (stops (line (exactly steps_line)) (after_steps c.args.key c.args.road c.in_ok-first.first) c.in_ok-first.rest c.in_err-steps.field-0.0 (line_by _ (exactly steps_line) c.in_ok-first.rest (Err c.in_err-steps.field-0.0) (λ text says p. search rules) c.in_err-steps.ensures))));
      stored = rw fault tt;
    }

pub returns-in_err-later : goal.returns-in_err-later
returns-in_err-later c =
    let fault = handed_on c.from_residual-in_err-later.result c.in_err-later.field-0.0 c.from_residual-in_err-later.ensures.0 c.from_residual-in_err-later.ensures.1 in
    let first = rw c.lanes.ensures.value at c.in_ok-first.ensures.reported in
    let told = subst (λ n. Reports {A = Sheet × Rest} (later_rules n c.in_ok-steps.steps c.in_ok-steps.rest) (Err c.in_err-later.field-0.0)) c.lanes.ensures.value c.in_err-later.ensures.reported in
    record {
      reported = rw fault (ends_in_fault (after_lanes c.args.key c.args.road) c.args.rest c.in_err-later.field-0.0
          (behind_rule c.args.key c.args.road c.in_ok-first.first c.args.rest c.in_ok-first.rest (Err c.in_err-later.field-0.0) first
          (behind_steps c.args.key c.args.road c.in_ok-first.first c.in_ok-steps.steps c.in_ok-first.rest c.in_ok-steps.rest (Err c.in_err-later.field-0.0) (line_by _ (exactly steps_line) c.in_ok-first.rest (Ok (c.in_ok-steps.steps, c.in_ok-steps.rest)) (λ text says p. search rules) c.in_ok-steps.ensures)
          (stops (later_rules (length c.args.road.lanes) c.in_ok-steps.steps) (after_all c.args.key c.args.road c.in_ok-first.first c.in_ok-steps.steps) c.in_ok-steps.rest c.in_err-later.field-0.0 told))));
      stored = rw fault tt;
    }

pub returns-clause-reported : goal.returns-clause-reported
returns-clause-reported c =
    let after : Rest = c.in_ok-later.field-0-1 in
    let say : Job = record { key = c.args.key; road = c.args.road; first = c.in_ok-first.first; later = c.in_ok-later.later.items; steps = c.in_ok-steps.steps } in
    let first = rw c.lanes.ensures.value at c.in_ok-first.ensures.reported in
    let later = rw c.lanes.ensures.value at c.in_ok-later.ensures.reported in (
      after,
      behind_rule c.args.key c.args.road c.in_ok-first.first c.args.rest c.in_ok-first.rest (Ok (say, after)) first
          (behind_steps c.args.key c.args.road c.in_ok-first.first c.in_ok-steps.steps c.in_ok-first.rest c.in_ok-steps.rest (Ok (say, after)) (line_by _ (exactly steps_line) c.in_ok-first.rest (Ok (c.in_ok-steps.steps, c.in_ok-steps.rest)) (λ text says p. search rules) c.in_ok-steps.ensures)
          (behind_all c.args.key c.args.road c.in_ok-first.first c.in_ok-steps.steps c.in_ok-later.later.items c.in_ok-steps.rest after later)),
    )

pub invariant_of-result : goal.invariant_of-result
invariant_of-result c =
    let after : Rest = c.in_ok-later.field-0-1 in
    let first = rw c.lanes.ensures.value at c.in_ok-first.ensures.reported in
    let later = rw c.lanes.ensures.value at c.in_ok-later.ensures.reported in
    rules_stored c.args.key c.args.road c.in_ok-first.first c.in_ok-later.later.items c.in_ok-steps.steps c.args.rest c.in_ok-first.rest c.in_ok-steps.rest after c.requires first
    (line_by _ (exactly steps_line) c.in_ok-first.rest (Ok (c.in_ok-steps.steps, c.in_ok-steps.rest)) (λ text says p. search rules) c.in_ok-steps.ensures) later

pub returns-clause-stored : goal.returns-clause-stored
returns-clause-stored c =
    let after : Rest = c.in_ok-later.field-0-1 in
    let first = rw c.lanes.ensures.value at c.in_ok-first.ensures.reported in
    let later = rw c.lanes.ensures.value at c.in_ok-later.ensures.reported in
    rules_stored c.args.key c.args.road c.in_ok-first.first c.in_ok-later.later.items c.in_ok-steps.steps c.args.rest c.in_ok-first.rest c.in_ok-steps.rest after c.requires first
    (line_by _ (exactly steps_line) c.in_ok-first.rest (Ok (c.in_ok-steps.steps, c.in_ok-steps.rest)) (λ text says p. search rules) c.in_ok-steps.ensures) later
