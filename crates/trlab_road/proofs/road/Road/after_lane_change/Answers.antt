use Rattle.std.proofs.Common.{arith}
use Rattle.trlab_road.proofs.LaneChangeInOrder.{crosses_in_order, cross_legal, cross_clean}
use Rattle.trlab_road.proofs.ListRoads.{few_cells, lanes_count}
use Rattle.trlab_road.proofs.road.Road.after_lane_change.Goals as goal

pub change_lanes-requires-clause-two : goal.change_lanes-requires-clause-two
change_lanes-requires-clause-two c =
    let allowed = rw (← c.self.view_is) at c.requires in
    let two = allowed.two_lanes in
    let e = lanes_count c.self.inside.cells c.self.inside.lanes.items c.self.inside.limit c.self.invariant in
    rw c.deref.ensures.value (omega (arith, two, e))

pub change_lanes-requires-clause-at_most_max_length : goal.change_lanes-requires-clause-at_most_max_length
change_lanes-requires-clause-at_most_max_length c = few_cells c.self.inside.cells c.self.inside.lanes.items c.self.inside.limit c.self.invariant

pub change_lanes-requires-clause-sorted : goal.change_lanes-requires-clause-sorted
change_lanes-requires-clause-sorted c = rw c.deref.ensures.value c.self.invariant.sorted

pub change_lanes-requires-clause-one_each : goal.change_lanes-requires-clause-one_each
change_lanes-requires-clause-one_each c =
    let allowed = rw (← c.self.view_is) at c.requires in
    let each = allowed.one_each in
    rw c.deref.ensures.value (omega (arith, each))

pub invariant_of-result : goal.invariant_of-result
invariant_of-result c =
    let allowed = rw (← c.self.view_is) at c.requires in
    let m = (rw c.deref.ensures.value at c.in_ok-lanes.ensures.crosses) c.self.inside.limit in
    record {
      legal = cross_legal _ _ c.args.crosses.now c.self.invariant.legal allowed m;
      sorted = c.in_ok-lanes.ensures.sorted;
    }

pub returns-clause-crosses : goal.returns-clause-crosses
returns-clause-crosses c =
    let m = (rw c.deref.ensures.value at c.in_ok-lanes.ensures.crosses) c.self.inside.limit in
    rw (← c.self.view_is) (crosses_in_order _ _ c.args.crosses.now m)

pub returns-clause-clean : goal.returns-clause-clean
returns-clause-clean c =
    let allowed = rw (← c.self.view_is) at c.requires in
    let m = (rw c.deref.ensures.value at c.in_ok-lanes.ensures.crosses) c.self.inside.limit in
    rw (← c.self.view_is) (cross_clean _ _ c.args.crosses.now c.self.invariant.legal allowed m)

pub returns-clause-legal : goal.returns-clause-legal
returns-clause-legal c =
    let allowed = rw (← c.self.view_is) at c.requires in
    let m = (rw c.deref.ensures.value at c.in_ok-lanes.ensures.crosses) c.self.inside.limit in
    cross_legal _ _ c.args.crosses.now c.self.invariant.legal allowed m
