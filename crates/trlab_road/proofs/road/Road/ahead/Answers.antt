use Rattle.std.proofs.Common.{◌≡◌, ◌∙◌, ℕ, List, [], Vec, Global, get_or, sym, ap, subst}
use Rattle.trlab_road.specs.{Stored.{LaneCar, IsFoundAt, cells_of, lanes_from, list_at, place_of}, Cells.Lane}
use Rattle.trlab_road.{specs.Gaps.{gap, headspeed}, proofs.Headspeeds.headspeed_within}
use Rattle.trlab_road.proofs.ListRoads.{below_counted, found_by, found_in_order, lane_from, few_cells}
use Rattle.trlab_road.proofs.ListRoads.{length_first}
use Rattle.trlab_road.proofs.road.Road.ahead.Goals as goal

pub find-lane-requires-clause-below : goal.find-lane-requires-clause-below
find-lane-requires-clause-below c =
    let low = rw (← c.self.view_is) at c.requires in
    rw c.deref.ensures.value (below_counted c.self.inside.cells c.self.inside.lanes.items c.self.inside.limit c.self.invariant c.args.k low)

pub look_ahead-requires-clause-at_most_max_length : goal.look_ahead-requires-clause-at_most_max_length
look_ahead-requires-clause-at_most_max_length c = few_cells c.self.inside.cells c.self.inside.lanes.items c.self.inside.limit c.self.invariant

-- the result for the list that was searched is the result for the lane
told : (look : Lane → ℕ → ℕ) (n : ℕ) (lists given : List (Vec LaneCar Global)) (k l i v : ℕ) (cars : List LaneCar) → IsFoundAt lists k l i → given ≡ lists → cars ≡ list_at given l → v ≡ look (cells_of n cars) (place_of cars i)
    → v ≡ look (get_or (lanes_from n lists) l []) (place_of (list_at lists l) i)
told look n lists given k l i v cars f e is value =
    value ∙ ap (λ (cs : List LaneCar). look (cells_of n cs) (place_of cs i)) (is ∙ ap (λ (ls : List (Vec LaneCar Global)). list_at ls l) e) ∙ ap (λ (lane : Lane). look lane (place_of (list_at lists l) i)) (sym (lane_from n lists l f.on_lane))

pub returns-clause-value : goal.returns-clause-value
returns-clause-value c =
    let n = c.self.inside.cells in
    let lists = c.self.inside.lanes.items in
    let f = subst (λ (ls : List (Vec LaneCar Global)). IsFoundAt ls c.args.k c.find-lane.result.0 c.find-lane.result.1) c.deref.ensures.value c.find-lane.ensures in
    rw (← c.self.view_is) (found_in_order (λ l x. gap (get_or (lanes_from n lists) l []) x) n lists c.self.inside.limit _ _ _ c.self.invariant.sorted f c.look_ahead.result.gap
    (told gap n lists _ _ _ _ c.look_ahead.result.gap _ f c.deref-2.ensures.value c.list_of.ensures c.look_ahead.ensures.gap) 0)

pub returns-clause-gap : goal.returns-clause-gap
returns-clause-gap c =
    let n = c.self.inside.cells in
    let lists = c.self.inside.lanes.items in
    let f = subst (λ (ls : List (Vec LaneCar Global)). IsFoundAt ls c.args.k c.find-lane.result.0 c.find-lane.result.1) c.deref.ensures.value c.find-lane.ensures in
    rw (← c.self.view_is) (found_by (λ l x. gap (get_or (lanes_from n lists) l []) x) n lists c.self.inside.limit _ _ _ c.self.invariant.sorted f c.look_ahead.result.gap
    (told gap n lists _ _ _ _ c.look_ahead.result.gap _ f c.deref-2.ensures.value c.list_of.ensures c.look_ahead.ensures.gap))

pub returns-clause-headspeed : goal.returns-clause-headspeed
returns-clause-headspeed c =
    let n = c.self.inside.cells in
    let lists = c.self.inside.lanes.items in
    let f = subst (λ (ls : List (Vec LaneCar Global)). IsFoundAt ls c.args.k c.find-lane.result.0 c.find-lane.result.1) c.deref.ensures.value c.find-lane.ensures in
    rw (← c.self.view_is) (found_by (λ l x. headspeed (get_or (lanes_from n lists) l []) x) n lists c.self.inside.limit _ _ _ c.self.invariant.sorted f c.look_ahead.result.headspeed
    (told headspeed n lists _ _ _ _ c.look_ahead.result.headspeed _ f c.deref-2.ensures.value c.list_of.ensures c.look_ahead.ensures.headspeed))

pub returns-clause-below : goal.returns-clause-below
returns-clause-below c = rw (← c.self.view_is, length_first c.self.inside.cells c.self.inside.lanes.items c.self.inside.limit c.self.invariant) c.look_ahead.ensures.in_range

pub returns-clause-at_most_limit : goal.returns-clause-at_most_limit
returns-clause-at_most_limit c =
    let n = c.self.inside.cells in
    let lists = c.self.inside.lanes.items in
    let f = subst (λ (ls : List (Vec LaneCar Global)). IsFoundAt ls c.args.k c.find-lane.result.0 c.find-lane.result.1) c.deref.ensures.value c.find-lane.ensures in
    let l = c.find-lane.result.0 in
    let x = place_of (list_at lists l) c.find-lane.result.1 in
    let is = told headspeed n lists _ _ _ _ c.look_ahead.result.headspeed _ f c.deref-2.ensures.value c.list_of.ensures c.look_ahead.ensures.headspeed in
    rw (← c.self.view_is) (rw is (headspeed_within (record { limit = c.self.inside.limit; lanes = lanes_from n lists }) l x c.self.invariant.legal))
