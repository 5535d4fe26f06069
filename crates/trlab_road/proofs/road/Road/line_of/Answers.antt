use Rattle.std.proofs.Common.{◌<◌, length, sym, arith}
use Rattle.trlab_road.{specs.Stored.list_at, proofs.ListRoads.{few_cars, lane_from, lanes_count, slow_list}}
use Rattle.trlab_road.proofs.Lists.{standing_list}
use Rattle.trlab_road.proofs.road.Road.line_of.Goals as goal

pub returns-clause-line : goal.returns-clause-line
returns-clause-line c =
    let n = c.self.inside.cells in
    let lists = c.self.inside.lanes.items in
    let lane = c.args.lane in
    let within = rw (← c.self.view_is) at c.requires in
    let count = lanes_count n lists c.self.inside.limit c.self.invariant in
    let on : lane < length lists = omega (arith, within, count) in
    rw (← c.self.view_is, c.list_of.ensures, c.deref.ensures.value, lane_from n lists lane on) (sym (standing_list lane n (list_at lists lane) (c.self.invariant.sorted.rises lane on)))

pub returns-clause-at_most_max_length : goal.returns-clause-at_most_max_length
returns-clause-at_most_max_length c =
    let within = rw (← c.self.view_is) at c.requires in
    let count = lanes_count c.self.inside.cells c.self.inside.lanes.items c.self.inside.limit c.self.invariant in
    rw (c.list_of.ensures, c.deref.ensures.value) (few_cars c.self.inside.cells c.self.inside.lanes.items c.self.inside.limit c.self.invariant c.args.lane (omega (arith, within, count)))

pub returns-clause-at_most_max_limit : goal.returns-clause-at_most_max_limit
returns-clause-at_most_max_limit c =
    let within = rw (← c.self.view_is) at c.requires in
    let count = lanes_count c.self.inside.cells c.self.inside.lanes.items c.self.inside.limit c.self.invariant in
    rw (c.list_of.ensures, c.deref.ensures.value) (slow_list c.self.inside.cells c.self.inside.lanes.items c.self.inside.limit c.self.invariant c.args.lane (omega (arith, within, count)))
