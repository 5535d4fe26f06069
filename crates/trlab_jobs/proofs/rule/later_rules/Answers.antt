use Rattle.std.proofs.{Common.{◌≡◌, [], ◌∷◌, ◌++◌, suc, ◌-◌, arith}, lemmas.Grind.common_steps}
use Rattle.trlab_texts.proofs.Readings.{handed_on}
use Rattle.trlab_jobs.proofs.LaterLines.{one_more, stopped, all_read, all_kept, some_left}
use Rattle.trlab_jobs.proofs.rule.later_rules.Goals as goal

pub returns-in_err-from-clause-reported : goal.returns-in_err-from-clause-reported
returns-in_err-from-clause-reported c =
    let fault = handed_on c.from_residual.result c.in_err-from.field-0.0 c.from_residual.ensures.0 c.from_residual.ensures.1 in
    rw fault (stopped c.args.lanes.count c.args.steps c.args.rest c.loop-alloc.later.items c.loop-alloc.room c.loop-alloc.least c.loop-alloc.rest c.in_err-from.field-0.0
    c.loop-alloc.invariant (some_left c.loop-alloc.rest c.is_end.result c.loop-alloc-test.true c.is_end.ensures) c.in_err-from.ensures.reported)

pub loop-alloc-preserved : goal.loop-alloc-preserved
loop-alloc-preserved c =
    let left : c.loop-alloc.room ≡ suc (c.loop-alloc.room - 1) = omega (arith, c.in_ok-from.ensures.room) in
    let pushed : c.push.new.self.items ≡ c.loop-alloc.later.items ++ ((c.in_ok-from.from, c.in_ok-from.rule) ∷ []) = grind (arith, common_steps) in
    rw pushed (one_more c.args.lanes.count c.args.steps c.args.rest c.loop-alloc.later.items c.loop-alloc.room (c.loop-alloc.room - 1) c.loop-alloc.least c.loop-alloc.rest c.in_ok-from.after c.in_ok-from.from c.in_ok-from.rule
    c.loop-alloc.invariant (some_left c.loop-alloc.rest c.is_end.result c.loop-alloc-test.true c.is_end.ensures) left
    c.in_ok-from.ensures.reported c.in_ok-from.ensures.rises c.in_ok-from.ensures.in_range c.in_ok-from.ensures.suits)

pub returns-clause-reported : goal.returns-clause-reported
returns-clause-reported c =
    all_read c.args.lanes.count c.args.steps c.args.rest c.loop-alloc.later.items c.loop-alloc.room c.loop-alloc.least c.loop-alloc.rest c.loop-alloc.invariant
    (c.is_end.ensures.0 c.loop-alloc-test.false)

pub returns-clause-later : goal.returns-clause-later
returns-clause-later c =
    all_kept c.args.lanes.count c.args.steps c.args.rest c.loop-alloc.later.items c.loop-alloc.room c.loop-alloc.least c.loop-alloc.rest c.loop-alloc.invariant
