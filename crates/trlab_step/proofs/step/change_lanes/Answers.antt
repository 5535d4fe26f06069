use Rattle.std.proofs.{Common.{◌≤◌, ◌∙◌, ap, arith, length, count_by}, lemmas.Result.err_from_is_err_and}
use Rattle.trlab_step.proofs.{Counts.few_cars, Stepped.lane_change_is_done, Parts.whole_free}
use Rattle.trlab_step.proofs.step.change_lanes.Goals as goal

pub returns-clause-phase : goal.returns-clause-phase
returns-clause-phase g c =
    let told = c.in_ok-crossings.ensures.crossings in
    let crossed = rw (c.deref.ensures.value, c.crossings.ensures.same) at c.in_ok-middle.ensures.crosses in
    let counted = c.count_lane_changes.ensures ∙ ap (count_by (λ crosses. crosses)) c.deref-2.ensures.value in
    lane_change_is_done c.args.change.now _ c.args.road.now c.in_ok-middle.middle c.crossings.new.answers.items c.count_lane_changes.result c.requires.two_lanes told.0 crossed counted

pub crossings-requires-clause-ready : goal.crossings-requires-clause-ready
crossings-requires-clause-ready g c = c.requires.ready

pub crossings-requires-clause-two_lanes : goal.crossings-requires-clause-two_lanes
crossings-requires-clause-two_lanes g c = c.requires.two_lanes

pub after_lane_change-requires : goal.after_lane_change-requires
after_lane_change-requires g c = rw (c.deref.ensures.value, c.crossings.ensures.same) (whole_free c.args.change.now _ c.args.road.now c.crossings.new.answers.items c.requires.two_lanes c.in_ok-crossings.ensures.crossings)

pub count_lane_changes-requires : goal.count_lane_changes-requires
count_lane_changes-requires g c =
    let told = c.in_ok-crossings.ensures.crossings.0.one_each in
    let most = few_cars c.in_ok-middle.middle c.in_ok-middle.ensures.legal in
    let kept = rw c.crossings.ensures.same at c.in_ok-middle.ensures.clean.same_count in
    let few : length c.crossings.new.answers.items ≤ 200000 = omega (arith, told, most, kept) in
    record { at_most_max_cars = rw c.deref-2.ensures.value few }

pub returns-in_err-crossings-clause-phase : goal.returns-in_err-crossings-clause-phase
returns-in_err-crossings-clause-phase g c = let p = err_from_is_err_and c.from_residual.result c.from_residual.ensures.1 in rw p.1 tt

pub returns-in_err-crossings-clause-clean : goal.returns-in_err-crossings-clause-clean
returns-in_err-crossings-clause-clean g c = let p = err_from_is_err_and c.from_residual.result c.from_residual.ensures.1 in rw p.1 tt

pub returns-in_err-crossings-clause-legal : goal.returns-in_err-crossings-clause-legal
returns-in_err-crossings-clause-legal g c = let p = err_from_is_err_and c.from_residual.result c.from_residual.ensures.1 in rw p.1 tt

pub returns-in_err-crossings-clause-seen : goal.returns-in_err-crossings-clause-seen
returns-in_err-crossings-clause-seen g c = c.crossings.ensures.seen

pub returns-in_err-crossings-clause-same : goal.returns-in_err-crossings-clause-same
returns-in_err-crossings-clause-same g c = c.crossings.ensures.same

pub returns-in_err-middle-clause-phase : goal.returns-in_err-middle-clause-phase
returns-in_err-middle-clause-phase g c = let p = err_from_is_err_and c.from_residual-in_err-middle.result c.from_residual-in_err-middle.ensures.1 in rw p.1 tt

pub returns-in_err-middle-clause-clean : goal.returns-in_err-middle-clause-clean
returns-in_err-middle-clause-clean g c = let p = err_from_is_err_and c.from_residual-in_err-middle.result c.from_residual-in_err-middle.ensures.1 in rw p.1 tt

pub returns-in_err-middle-clause-legal : goal.returns-in_err-middle-clause-legal
returns-in_err-middle-clause-legal g c = let p = err_from_is_err_and c.from_residual-in_err-middle.result c.from_residual-in_err-middle.ensures.1 in rw p.1 tt

pub returns-in_err-middle-clause-seen : goal.returns-in_err-middle-clause-seen
returns-in_err-middle-clause-seen g c = c.crossings.ensures.seen

pub returns-in_err-middle-clause-same : goal.returns-in_err-middle-clause-same
returns-in_err-middle-clause-same g c = c.crossings.ensures.same

pub returns-clause-clean : goal.returns-clause-clean
returns-clause-clean g c = rw c.crossings.ensures.same at c.in_ok-middle.ensures.clean

pub returns-clause-legal : goal.returns-clause-legal
returns-clause-legal g c = c.in_ok-middle.ensures.legal

pub returns-clause-seen : goal.returns-clause-seen
returns-clause-seen g c = c.crossings.ensures.seen

pub returns-clause-same : goal.returns-clause-same
returns-clause-same g c = c.crossings.ensures.same
