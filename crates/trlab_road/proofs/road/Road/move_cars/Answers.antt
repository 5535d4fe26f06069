use Rattle.trlab_road.proofs.MotionInOrder.{moves_in_order, allowed_legal, allowed_clean}
use Rattle.trlab_road.proofs.ListRoads.{lists_fit, lists_move, allowed_count, few_cells, all_written}
use Rattle.trlab_road.proofs.road.Road.move_cars.Goals as goal

pub move_lanes-requires-clause-at_most_max_length : goal.move_lanes-requires-clause-at_most_max_length
move_lanes-requires-clause-at_most_max_length c = few_cells c.self.inside.cells c.self.inside.lanes.items c.self.inside.limit c.self.invariant

pub move_lanes-requires-clause-sorted : goal.move_lanes-requires-clause-sorted
move_lanes-requires-clause-sorted c = rw c.deref_mut.ensures.value c.self.invariant.sorted

pub move_lanes-requires-clause-one_each : goal.move_lanes-requires-clause-one_each
move_lanes-requires-clause-one_each c =
    let allowed = rw (← c.self.view_is) at c.requires in
    rw c.deref_mut.ensures.value (allowed_count c.self.inside.cells c.self.inside.limit c.self.inside.lanes.items c.args.speeds.now allowed)

pub move_lanes-requires-clause-gaps : goal.move_lanes-requires-clause-gaps
move_lanes-requires-clause-gaps c =
    let allowed = rw (← c.self.view_is) at c.requires in
    rw c.deref_mut.ensures.value (lists_fit c.self.inside.cells c.self.inside.limit c.self.inside.lanes.items c.args.speeds.now allowed)

pub invariant_of-self : goal.invariant_of-self
invariant_of-self c =
    let allowed = rw (← c.self.view_is) at c.requires in
    let moves = rw c.deref_mut.ensures.value at c.move_lanes.ensures.moves in
    let m = lists_move c.self.inside.cells c.self.inside.limit c.self.inside.lanes.items c.move_lanes.new.lanes c.args.speeds.now moves in
    rw (all_written c.self.inside.lanes.items c.move_lanes.new.lanes c.self.inside.lanes.len c.self.inside.lanes.ok.0 moves.same_lanes) (record {
      legal = allowed_legal _ _ c.args.speeds.now c.self.invariant.legal allowed m;
      sorted = c.move_lanes.ensures.sorted;
    })

pub returns-clause-moves : goal.returns-clause-moves
returns-clause-moves c =
    let moves = rw c.deref_mut.ensures.value at c.move_lanes.ensures.moves in
    let m = lists_move c.self.inside.cells c.self.inside.limit c.self.inside.lanes.items c.move_lanes.new.lanes c.args.speeds.now moves in
    rw (← c.self.view_is, all_written c.self.inside.lanes.items c.move_lanes.new.lanes c.self.inside.lanes.len c.self.inside.lanes.ok.0 moves.same_lanes) (moves_in_order _ _ c.args.speeds.now m)

pub returns-clause-clean : goal.returns-clause-clean
returns-clause-clean c =
    let allowed = rw (← c.self.view_is) at c.requires in
    let moves = rw c.deref_mut.ensures.value at c.move_lanes.ensures.moves in
    let m = lists_move c.self.inside.cells c.self.inside.limit c.self.inside.lanes.items c.move_lanes.new.lanes c.args.speeds.now moves in
    rw (← c.self.view_is, all_written c.self.inside.lanes.items c.move_lanes.new.lanes c.self.inside.lanes.len c.self.inside.lanes.ok.0 moves.same_lanes)
    (allowed_clean _ _ c.args.speeds.now c.self.invariant.legal allowed m)

pub returns-clause-legal : goal.returns-clause-legal
returns-clause-legal c =
    let allowed = rw (← c.self.view_is) at c.requires in
    let moves = rw c.deref_mut.ensures.value at c.move_lanes.ensures.moves in
    let m = lists_move c.self.inside.cells c.self.inside.limit c.self.inside.lanes.items c.move_lanes.new.lanes c.args.speeds.now moves in
    rw (all_written c.self.inside.lanes.items c.move_lanes.new.lanes c.self.inside.lanes.len c.self.inside.lanes.ok.0 moves.same_lanes)
    (allowed_legal _ _ c.args.speeds.now c.self.invariant.legal allowed m)
