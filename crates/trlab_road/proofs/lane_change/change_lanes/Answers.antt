use Rattle.std.proofs.Common.{◌≡◌, ◌+◌, ◌<◌, ◌≤◌, ◌∙◌, ℕ, List, Vec, Global, Bool, length, take, refl, ap}
use Rattle.std.proofs.Common.{subst, arith, sum_by}
use Rattle.trlab_road.specs.Stored.{LaneCar, IsSortedFrom, AreSorted, cells_of, lanes_from, list_at}
use Rattle.trlab_road.specs.{Stored.lane_crosses_at, Cells.lane_car_count, LaneChange.LaneCrosses}
use Rattle.trlab_road.proofs.ListLeaving.{crosses_from}
use Rattle.trlab_road.proofs.ListRoads.{list_counted, list_within, crosses_two, two_written, two_sorted}
use Rattle.trlab_road.proofs.lane_change.change_lanes.Goals as goal

lane_0 : (lanes : ℕ) → lanes ≡ 2 → 0 < lanes
lane_0 lanes two = omega (arith, two)

lane_1 : (lanes : ℕ) → lanes ≡ 2 → 1 < lanes
lane_1 lanes two = omega (arith, two)

-- the lists of the two lanes, and one answer per car
module _ (n : ℕ) (lists : List (Vec LaneCar Global)) (answers : List Bool) (own : List LaneCar) (two : length lists ≡ 2) (sorted : AreSorted n lists) (each : sum_by lane_car_count (lanes_from n lists) ≤ length answers) (is : own ≡ list_at lists 0) where
  each_0 : 0 + length own ≤ length answers
  each_0 =
      let a = list_within n lists 0 sorted (lane_0 (length lists) two) in
      let b = ap length is in
      omega (arith, a, b, each)

  sorted_0 : IsSortedFrom 0 n own
  sorted_0 = rw is (sorted.rises 0 (lane_0 (length lists) two))

  each_1 : (beside : List LaneCar) → beside ≡ list_at lists 1 → length own + length beside ≤ length answers
  each_1 beside there =
      let a = list_within n lists 1 sorted (lane_1 (length lists) two) in
      let z = list_counted n lists 0 sorted (lane_0 (length lists) two) in
      let b = ap length is in
      let d = ap length there in
      omega (arith, a, z, b, d, each)

  count_0 : length own ≡ sum_by lane_car_count (take 1 (lanes_from n lists))
  count_0 =
      let z = list_counted n lists 0 sorted (lane_0 (length lists) two) in
      let b = ap length is in
      omega (arith, z, b)

pub list_of-requires : goal.list_of-requires
list_of-requires c = lane_0 (length c.args.lanes.now) c.requires.two

pub list_of-requires-2 : goal.list_of-requires-2
list_of-requires-2 c = lane_1 (length c.args.lanes.now) c.requires.two

pub leaving_cars-requires-clause-sorted : goal.leaving_cars-requires-clause-sorted
leaving_cars-requires-clause-sorted c = sorted_0 c.args.cells c.args.lanes.now c.args.crosses.now _ c.requires.two c.requires.sorted c.requires.one_each c.list_of.ensures

pub change_lane-requires-clause-own_sorted : goal.change_lane-requires-clause-own_sorted
change_lane-requires-clause-own_sorted c = sorted_0 c.args.cells c.args.lanes.now c.args.crosses.now _ c.requires.two c.requires.sorted c.requires.one_each c.list_of.ensures

pub leaving_cars-requires-clause-each : goal.leaving_cars-requires-clause-each
leaving_cars-requires-clause-each c = each_0 c.args.cells c.args.lanes.now c.args.crosses.now _ c.requires.two c.requires.sorted c.requires.one_each c.list_of.ensures

pub change_lane-requires-clause-own_each : goal.change_lane-requires-clause-own_each
change_lane-requires-clause-own_each c = each_0 c.args.cells c.args.lanes.now c.args.crosses.now _ c.requires.two c.requires.sorted c.requires.one_each c.list_of.ensures

pub leaving_cars-requires-2-clause-sorted : goal.leaving_cars-requires-2-clause-sorted
leaving_cars-requires-2-clause-sorted c = rw c.list_of-2.ensures (c.requires.sorted.rises 1 (lane_1 (length c.args.lanes.now) c.requires.two))

pub change_lane-requires-2-clause-own_sorted : goal.change_lane-requires-2-clause-own_sorted
change_lane-requires-2-clause-own_sorted c = rw c.list_of-2.ensures (c.requires.sorted.rises 1 (lane_1 (length c.args.lanes.now) c.requires.two))

pub leaving_cars-requires-2-clause-each : goal.leaving_cars-requires-2-clause-each
leaving_cars-requires-2-clause-each c = each_1 c.args.cells c.args.lanes.now c.args.crosses.now _ c.requires.two c.requires.sorted c.requires.one_each c.list_of.ensures _ c.list_of-2.ensures

pub change_lane-requires-2-clause-own_each : goal.change_lane-requires-2-clause-own_each
change_lane-requires-2-clause-own_each c = each_1 c.args.cells c.args.lanes.now c.args.crosses.now _ c.requires.two c.requires.sorted c.requires.one_each c.list_of.ensures _ c.list_of-2.ensures

pub change_lane-requires-clause-at_most_max_length : goal.change_lane-requires-clause-at_most_max_length
change_lane-requires-clause-at_most_max_length c = c.requires.at_most_max_length

pub change_lane-requires-2-clause-at_most_max_length : goal.change_lane-requires-2-clause-at_most_max_length
change_lane-requires-2-clause-at_most_max_length c = c.requires.at_most_max_length

-- the answers of a lane begin at the number of the cars before it
at_ranks : (n : ℕ) (answers : List Bool) (own lane beside other next : List LaneCar) (f g h k : ℕ) → own ≡ lane → beside ≡ other → f ≡ h → g ≡ k
    → LaneCrosses (lane_crosses_at (cells_of n own) answers f) (lane_crosses_at (cells_of n beside) answers g) (cells_of n own) (cells_of n beside) (cells_of n next)
    → LaneCrosses (lane_crosses_at (cells_of n lane) answers h) (lane_crosses_at (cells_of n other) answers k) (cells_of n lane) (cells_of n other) (cells_of n next)
at_ranks n answers own lane beside other next f g h k a b e d crosses =
    subst (λ (j : ℕ). LaneCrosses (lane_crosses_at (cells_of n lane) answers h) (lane_crosses_at (cells_of n other) answers j) (cells_of n lane) (cells_of n other) (cells_of n next)) d
    (subst (λ (j : ℕ). LaneCrosses (lane_crosses_at (cells_of n lane) answers j) (lane_crosses_at (cells_of n other) answers g) (cells_of n lane) (cells_of n other) (cells_of n next)) e
    (subst (λ (xs : List LaneCar). LaneCrosses (lane_crosses_at (cells_of n lane) answers f) (lane_crosses_at (cells_of n xs) answers g) (cells_of n lane) (cells_of n xs) (cells_of n next)) b
    (subst (λ (xs : List LaneCar). LaneCrosses (lane_crosses_at (cells_of n xs) answers f) (lane_crosses_at (cells_of n beside) answers g) (cells_of n xs) (cells_of n beside) (cells_of n next)) a crosses)))

pub returns-clause-crosses : goal.returns-clause-crosses
returns-clause-crosses c = λ limit.
    let n = c.args.cells in
    let lists = c.args.lanes.now in
    let two = c.requires.two in
    let none : 0 ≡ sum_by lane_car_count (take 0 (lanes_from n lists)) = refl in
    let count : length c.list_of.result.now ≡ sum_by lane_car_count (take 1 (lanes_from n lists)) = count_0 n lists c.args.crosses.now _ two c.requires.sorted c.requires.one_each c.list_of.ensures in
    rw (two_written c.in_ok-next.next.items c.change_lane.new.next c.change_lane-2.new.next c.in_ok-next.ensures) (crosses_two n limit lists c.change_lane.new.next c.change_lane-2.new.next c.args.crosses.now two
    (at_ranks n c.args.crosses.now _ _ _ _ _ 0 _ _ _ c.list_of.ensures c.list_of-2.ensures none count
    (crosses_from n _ _ _ _ _ _ (rw c.deref.ensures.value at c.in_ok-change_lane.ensures.crosses) c.in_ok-leaving_cars-2.ensures.leaves))
    (at_ranks n c.args.crosses.now _ _ _ _ _ _ 0 _ _ c.list_of-2.ensures c.list_of.ensures count none
    (crosses_from n _ _ _ _ _ _ (rw c.deref-2.ensures.value at c.in_ok-change_lane-2.ensures.crosses) c.in_ok-leaving_cars.ensures.leaves)))

pub change_lane-requires-clause-coming_sorted : goal.change_lane-requires-clause-coming_sorted
change_lane-requires-clause-coming_sorted c = rw c.deref.ensures.value c.in_ok-leaving_cars-2.ensures.rises

pub change_lane-requires-2-clause-coming_sorted : goal.change_lane-requires-2-clause-coming_sorted
change_lane-requires-2-clause-coming_sorted c = rw c.deref-2.ensures.value c.in_ok-leaving_cars.ensures.rises

pub returns-clause-sorted : goal.returns-clause-sorted
returns-clause-sorted c = rw (two_written c.in_ok-next.next.items c.change_lane.new.next c.change_lane-2.new.next c.in_ok-next.ensures)
    (two_sorted c.args.cells c.change_lane.new.next c.change_lane-2.new.next c.in_ok-change_lane.ensures.rises c.in_ok-change_lane-2.ensures.rises)

pub index_mut-requires : goal.index_mut-requires
index_mut-requires c = lane_0 c.in_ok-next.next.len (c.in_ok-next.next.ok.0 ∙ c.in_ok-next.ensures)

pub index_mut-requires-2 : goal.index_mut-requires-2
index_mut-requires-2 c = lane_1 c.in_ok-next.next.len (c.in_ok-next.next.ok.0 ∙ c.in_ok-next.ensures)
