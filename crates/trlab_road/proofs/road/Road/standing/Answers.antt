use Rattle.std.proofs.Common.{List, Vec, Global, subst}
use Rattle.trlab_road.specs.Stored.{LaneCar, IsFoundAt}
use Rattle.trlab_road.proofs.ListRoads.{below_counted, found_standing, found_cell, found_inside, length_first}
use Rattle.trlab_road.proofs.road.Road.standing.Goals as goal

pub find-lane-requires-clause-below : goal.find-lane-requires-clause-below
find-lane-requires-clause-below c =
    let low = rw (← c.self.view_is) at c.requires in
    rw c.deref.ensures.value (below_counted c.self.inside.cells c.self.inside.lanes.items c.self.inside.limit c.self.invariant c.args.k low)

pub returns-clause-order : goal.returns-clause-order
returns-clause-order c =
    let n = c.self.inside.cells in
    let f = subst (λ (ls : List (Vec LaneCar Global)). IsFoundAt ls c.args.k c.find-lane.result.0 c.find-lane.result.1) c.deref.ensures.value c.find-lane.ensures in
    rw (← c.self.view_is, c.car_of.ensures, c.deref-2.ensures.value) (found_standing n c.self.inside.lanes.items c.self.inside.limit _ _ _ c.self.invariant.sorted f)

pub returns-clause-cell : goal.returns-clause-cell
returns-clause-cell c =
    let n = c.self.inside.cells in
    let f = subst (λ (ls : List (Vec LaneCar Global)). IsFoundAt ls c.args.k c.find-lane.result.0 c.find-lane.result.1) c.deref.ensures.value c.find-lane.ensures in
    rw (← c.self.view_is, c.car_of.ensures, c.deref-2.ensures.value) (found_cell n c.self.inside.lanes.items c.self.inside.limit _ _ _ c.self.invariant.sorted f)

pub returns-clause-place : goal.returns-clause-place
returns-clause-place c =
    let n = c.self.inside.cells in
    let f = subst (λ (ls : List (Vec LaneCar Global)). IsFoundAt ls c.args.k c.find-lane.result.0 c.find-lane.result.1) c.deref.ensures.value c.find-lane.ensures in
    rw (← c.self.view_is, c.car_of.ensures, c.deref-2.ensures.value, length_first n c.self.inside.lanes.items c.self.inside.limit c.self.invariant) (found_inside n c.self.inside.lanes.items c.self.inside.limit _ _ _ c.self.invariant.sorted f)
