use Rattle.std.proofs.Common.{arith}
use Rattle.trlab_road.proofs.ListRoads.{lane_from, slow_list, lanes_count}
use Rattle.trlab_road.proofs.road.Road.push_picture.Goals as goal

pub push_picture-requires-clause-at_most_max_limit : goal.push_picture-requires-clause-at_most_max_limit
push_picture-requires-clause-at_most_max_limit c =
    let within = rw (← c.self.view_is) at c.requires in
    let count = lanes_count c.self.inside.cells c.self.inside.lanes.items c.self.inside.limit c.self.invariant in
    rw (c.list_of.ensures, c.deref.ensures.value) (slow_list c.self.inside.cells c.self.inside.lanes.items c.self.inside.limit c.self.invariant c.args.lane (omega (arith, within, count)))

pub returns-clause-added : goal.returns-clause-added
returns-clause-added c =
    let within = rw (← c.self.view_is) at c.requires in
    let count = lanes_count c.self.inside.cells c.self.inside.lanes.items c.self.inside.limit c.self.invariant in
    let n = c.self.inside.cells in
    let lane = lane_from n c.self.inside.lanes.items c.args.lane (omega (arith, within, count)) in
    rw (← c.self.view_is, lane) (rw (c.list_of.ensures, c.deref.ensures.value) at c.push_picture.ensures.added)
