use Rattle.std.proofs.Common.{List, Vec, Global, subst, ap, ◌∙◌, drop}
use Rattle.trlab_road.{specs.Stored.{LaneCar, IsFoundAt, list_at}, proofs.InLine.{in_line, line_from}}
use Rattle.trlab_road.proofs.ListRoads.{below_counted}
use Rattle.trlab_road.proofs.road.Road.line_from.Goals as goal

pub find-lane-requires-clause-below : goal.find-lane-requires-clause-below
find-lane-requires-clause-below c =
    let low = rw (← c.self.view_is) at c.requires in
    rw c.deref.ensures.value (below_counted c.self.inside.cells c.self.inside.lanes.items c.self.inside.limit c.self.invariant c.args.k low)

pub returns-clause-line : goal.returns-clause-line
returns-clause-line c =
    let n = c.self.inside.cells in
    let lists = c.self.inside.lanes.items in
    let f = subst (λ (ls : List (Vec LaneCar Global)). IsFoundAt ls c.args.k c.find-lane.result.0 c.find-lane.result.1) c.deref.ensures.value c.find-lane.ensures in
    let is = c.split_at.ensures.back ∙ ap (drop c.find-lane.result.1) (c.list_of.ensures ∙ ap (λ (ls : List (Vec LaneCar Global)). list_at ls c.find-lane.result.0) c.deref-2.ensures.value) in
    rw (← c.self.view_is) (line_from n lists c.self.inside.limit c.args.k _ _ c.self.invariant.sorted f c.split_at.result.1.now is)

pub returns-clause-followed : goal.returns-clause-followed
returns-clause-followed c j more =
    let n = c.self.inside.cells in
    let lists = c.self.inside.lanes.items in
    let f = subst (λ (ls : List (Vec LaneCar Global)). IsFoundAt ls c.args.k c.find-lane.result.0 c.find-lane.result.1) c.deref.ensures.value c.find-lane.ensures in
    let is = c.split_at.ensures.back ∙ ap (drop c.find-lane.result.1) (c.list_of.ensures ∙ ap (λ (ls : List (Vec LaneCar Global)). list_at ls c.find-lane.result.0) c.deref-2.ensures.value) in
    rw (← c.self.view_is) (in_line n lists c.self.inside.limit c.args.k _ _ c.self.invariant.sorted f c.split_at.result.1.now is j more)
