use Rattle.std.proofs.Common.{◌≤◌, ◌∙◌, ap, arith, length, count_by, nat_eq, sum}
use Rattle.std.proofs.lemmas.Result.{err_from_is_err_and}
use Rattle.trlab_step.proofs.{Counts.few_cars, Parts.whole_allowed}
use Rattle.trlab_step.proofs.Stepped.{all_gone, all_stopped, motion_is_done, moved_by_place}
use Rattle.trlab_step.proofs.step.move_cars.Goals as goal

pub returns-clause-moved : goal.returns-clause-moved
returns-clause-moved g c =
    let motion = c.args.motion.now in
    let road = c.args.road.now in
    let next = c.move_cars.new.self in
    let speeds = c.speeds.new.answers.items in
    let told = c.in_ok-speeds.ensures.speeds in
    let moves = moved_by_place motion _ road next speeds told.0 (rw (c.deref.ensures.value, c.speeds.ensures.same) at c.move_cars.ensures.moves) in
    record {
      phase = motion_is_done motion _ road next speeds told.0 moves;
      distance = all_gone motion _ road next speeds c.tally_of.result.distance told moves (c.tally_of.ensures.distance ∙ ap sum c.deref-2.ensures.value);
      stopped = all_stopped motion _ road next speeds c.tally_of.result.stopped told moves (c.tally_of.ensures.stopped ∙ ap (count_by (λ speed. nat_eq speed 0)) c.deref-2.ensures.value);
      changes = c.tally_of.ensures.changes;
      clean = rw c.speeds.ensures.same at c.move_cars.ensures.clean;
      legal = c.move_cars.ensures.legal;
    }

pub tally_of-requires : goal.tally_of-requires
tally_of-requires g c =
    let told = c.in_ok-speeds.ensures.speeds.0.one_each in
    let most = few_cars c.args.road.now c.snapshot-start.ensures.legal in
    let few : length c.speeds.new.answers.items ≤ 200000 = omega (arith, told, most) in
    record { at_most_max_cars = rw c.deref-2.ensures.value few }

pub speeds-requires : goal.speeds-requires
speeds-requires g c = record { ready = c.requires }

pub move_cars-requires : goal.move_cars-requires
move_cars-requires g c = rw (c.deref.ensures.value, c.speeds.ensures.same) (whole_allowed c.args.motion.now _ c.args.road.now c.speeds.new.answers.items c.in_ok-speeds.ensures.speeds)

pub returns-in_err-speeds-clause-moved : goal.returns-in_err-speeds-clause-moved
returns-in_err-speeds-clause-moved g c = let p = err_from_is_err_and c.from_residual.result c.from_residual.ensures.1 in rw p.1 tt

pub returns-in_err-speeds-clause-seen : goal.returns-in_err-speeds-clause-seen
returns-in_err-speeds-clause-seen g c = c.speeds.ensures.seen

pub returns-in_err-speeds-clause-unchanged : goal.returns-in_err-speeds-clause-unchanged
returns-in_err-speeds-clause-unchanged g c = let p = err_from_is_err_and c.from_residual.result c.from_residual.ensures.1 in rw p.1 c.speeds.ensures.same

pub returns-clause-seen : goal.returns-clause-seen
returns-clause-seen g c = c.speeds.ensures.seen
