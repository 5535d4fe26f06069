use Rattle.std.proofs.Common.{◌≡◌, ◌<◌, length, subst, arith}
use Rattle.trlab_road.proofs.ListLeaving.{Leaving, one_leaves, one_stays, all_leave}
use Rattle.trlab_road.proofs.lane_change.leaving_cars.Goals.{then-crosses-lane+in_ok-push, else-crosses-lane}
use Rattle.trlab_road.proofs.lane_change.leaving_cars.Goals as goal

pub loop-k-preserved : goal.loop-k-preserved
loop-k-preserved c =
    let n = c.args.cells in
    let cars = c.args.lane.cars.now in
    let low : c.loop-k.k < length cars = omega arith in
    elim c.if-crosses-lane.branch [
      | then-crosses-lane+in_ok-push w ↦ rw (w.leaving-is, w.in_ok-push.ensures.items, w.car_at.ensures)
          (one_leaves n cars c.args.crosses.now c.args.lane.from c.requires.sorted c.loop-k.leaving.items c.loop-k.k low c.loop-k.invariant w.if-crosses-lane.true)
      | else-crosses-lane w ↦ rw w.leaving-is
          (one_stays n cars c.args.crosses.now c.args.lane.from c.requires.sorted c.loop-k.leaving.items c.loop-k.k low c.loop-k.invariant w.if-crosses-lane.false)
    ]

pub returns-clause-leaves : goal.returns-clause-leaves
returns-clause-leaves c =
    let all : c.loop-k.k ≡ length c.args.lane.cars.now = omega arith in
    all_leave c.args.cells c.args.lane.cars.now c.args.crosses.now c.args.lane.from c.requires.sorted c.loop-k.leaving.items
    (subst (λ k. Leaving c.args.cells c.args.lane.cars.now c.args.crosses.now c.args.lane.from k c.loop-k.leaving.items) all c.loop-k.invariant)
