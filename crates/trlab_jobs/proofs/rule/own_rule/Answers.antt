use Rattle.std.proofs.Common.{ℕ, Option, refl, Ok, Err}
use Rattle.trlab_code.specs.declared.program.Kind.TheVariants.{Motion}
use Rattle.trlab_verify.specs.Verified.{CheckedProgram}
use Rattle.trlab_rules.specs.Rules.{Programs}
use Rattle.trlab_texts.specs.{Programs.part, Reading.{Reading, ◌>>=◌, give}}
use Rattle.trlab_texts.proofs.Readings.{goes_on, stops, handed_on}
use Rattle.trlab_jobs.{specs.RuleParts.change_part, proofs.RuleSteps.on_two_lanes}
use Rattle.trlab_jobs.proofs.rule.own_rule.Goals as goal

-- reading after each part
abbrev after_change : CheckedProgram → Option CheckedProgram → Reading Programs
after_change motion change = give (record { motion = motion; change = change })

abbrev after_motion : ℕ → CheckedProgram → Reading Programs
after_motion lanes motion = change_part lanes >>= after_change motion

pub returns-in_err-motion-clause-reported : goal.returns-in_err-motion-clause-reported
returns-in_err-motion-clause-reported c =
    let fault = handed_on c.from_residual.result c.in_err-motion.field-0.0 c.from_residual.ensures.0 c.from_residual.ensures.1 in
    rw fault (stops (part Motion) (after_motion c.args.lanes.count) c.args.rest c.in_err-motion.field-0.0 c.in_err-motion.ensures)

pub returns-in_err-change-clause-reported : goal.returns-in_err-change-clause-reported
returns-in_err-change-clause-reported c =
    let fault = handed_on c.from_residual-in_err-change.result c.in_err-change.field-0.0 c.from_residual-in_err-change.ensures.0 c.from_residual-in_err-change.ensures.1 in
    rw fault (goes_on (part Motion) (after_motion c.args.lanes.count) c.args.rest c.in_ok-motion.rest c.in_ok-motion.motion (Err c.in_err-change.field-0.0) c.in_ok-motion.ensures
    (stops (change_part c.args.lanes.count) (after_change c.in_ok-motion.motion) c.in_ok-motion.rest c.in_err-change.field-0.0 c.in_err-change.ensures))

pub returns-clause-reported : goal.returns-clause-reported
returns-clause-reported c =
    let own : Programs = record { motion = c.in_ok-motion.motion; change = c.in_ok-change.change } in
    rw c.new.ensures.value (goes_on (part Motion) (after_motion c.args.lanes.count) c.args.rest c.in_ok-motion.rest c.in_ok-motion.motion (Ok (own, c.in_ok-change.rest)) c.in_ok-motion.ensures
    (goes_on (change_part c.args.lanes.count) (after_change c.in_ok-motion.motion) c.in_ok-motion.rest c.in_ok-change.rest c.in_ok-change.change (Ok (own, c.in_ok-change.rest)) c.in_ok-change.ensures refl))

pub returns-clause-suits : goal.returns-clause-suits
returns-clause-suits c =
    let two = on_two_lanes c.args.lanes.count c.in_ok-motion.rest c.in_ok-change.rest c.in_ok-change.change c.args.lanes.in_range.0 c.args.lanes.in_range.1 c.in_ok-change.ensures in
    record { motion = c.new.ensures.rule.motion; change = c.new.ensures.rule.change; two_lanes = rw c.new.ensures.value two }
