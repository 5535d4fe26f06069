use Rattle.std.proofs.Common.{◌≡◌, ◌<◌, ◌≤◌, ◌-◌, ◌∙◌, ℕ, false, List, [], Vec, Global, length, get_or}
use Rattle.std.proofs.Common.{sum_by, sym, ap, arith}
use Rattle.trlab_bounds.specs.declared.roads.TheConstants.{MAX_LANES}
use Rattle.trlab_road.specs.{declared.gaps.SideGaps.SideGaps, Stored.{LaneCar, IsFoundAt, IsListedRoad}}
use Rattle.trlab_road.specs.Stored.{DescribesSideCell, cells_of, lanes_from, list_at, lists_of, place_of}
use Rattle.trlab_road.specs.{Cells.{Cells, Lane, cars_before, lane_car_count}, Gaps.{side, sideback, sidegap}}
use Rattle.trlab_road.specs.LaneChange.{IsValueOnOtherLane, IsGapOnOtherLane, sides}
use Rattle.trlab_road.proofs.ListRoads.{below_counted, few_cells, few_lists, found_by, found_in_order}
use Rattle.trlab_road.proofs.ListRoads.{found_inside, found_later, lane_from, lanes_count, length_first}
use Rattle.trlab_road.proofs.road.Road.beside.Goals as goal

-- the correct result for the k-th car in standing order
record IsTold (road : Cells) (k : ℕ) (beside : SideGaps) : Type 0 where
  value : beside.is_empty ≡ get_or (sides road) k false
  empty : IsValueOnOtherLane side road k beside.is_empty
  ahead : IsGapOnOtherLane sidegap road k beside.ahead
  behind : IsGapOnOtherLane sideback road k beside.behind
  next : IsValueOnOtherLane cars_before road k beside.next

-- the side gaps from the other lane's list are the correct result for the car that was found
module _ (n : ℕ) (lists : List (Vec LaneCar Global)) (limit k l i x : ℕ) (own other : List LaneCar) (beside : SideGaps) where
  abbrev road : Cells
  road = record { limit = limit; lanes = lanes_from n lists }

  here : {X : Type 0} (look : Lane → ℕ → X) (g : X) → 1 - l < length lists → own ≡ list_at lists l → other ≡ list_at lists (1 - l) → x ≡ place_of own i
      → g ≡ look (cells_of n other) x → g ≡ look (get_or (lanes_from n lists) (1 - l) []) (place_of (list_at lists l) i)
  here look g on own_is other_is at is =
      is ∙ ap (look (cells_of n other)) (at ∙ ap (λ (cs : List LaneCar). place_of cs i) own_is)
      ∙ ap (λ (cs : List LaneCar). look (cells_of n cs) (place_of (list_at lists l) i)) other_is
      ∙ ap (λ (lane : Lane). look lane (place_of (list_at lists l) i)) (sym (lane_from n lists (1 - l) on))

  told : IsListedRoad n lists road → 1 - l < length lists → IsFoundAt lists k l i → own ≡ list_at lists l → other ≡ list_at lists (1 - l) → x ≡ place_of own i
      → DescribesSideCell n other x beside → beside.next ≡ cars_before (cells_of n other) x → IsTold road k beside
  told stored on f own_is other_is at stands next =
      record {
        value = found_in_order (λ l x. side (get_or (lanes_from n lists) (1 - l) []) x) n lists limit k l i stored.sorted f beside.is_empty (here side _ on own_is other_is at stands.empty) false;
        empty = found_by (λ l x. side (get_or (lanes_from n lists) (1 - l) []) x) n lists limit k l i stored.sorted f beside.is_empty (here side _ on own_is other_is at stands.empty);
        ahead = record {
          of_car = found_by (λ l x. sidegap (get_or (lanes_from n lists) (1 - l) []) x) n lists limit k l i stored.sorted f beside.ahead (here sidegap _ on own_is other_is at stands.ahead);
          below = rw (length_first n lists limit stored) stands.ahead_within;
        };
        behind = record {
          of_car = found_by (λ l x. sideback (get_or (lanes_from n lists) (1 - l) []) x) n lists limit k l i stored.sorted f beside.behind (here sideback _ on own_is other_is at stands.behind);
          below = rw (length_first n lists limit stored) stands.behind_within;
        };
        next = found_by (λ l x. cars_before (get_or (lanes_from n lists) (1 - l) []) x) n lists limit k l i stored.sorted f beside.next (here cars_before _ on own_is other_is at next);
      }

-- a car of the first list
found_first : (lists : List (Vec LaneCar Global)) (k : ℕ) → 0 < length lists → k < length (list_at lists 0) → IsFoundAt lists k 0 k
found_first lists k some low = record { on_lane = some; low = low; order = omega arith }

pub look_beside-requires-clause-at_most_max_length : goal.look_beside-requires-clause-at_most_max_length
look_beside-requires-clause-at_most_max_length c = few_cells c.self.inside.cells c.self.inside.lanes.items c.self.inside.limit c.self.invariant

pub look_beside-requires-else-index-first-clause-at_most_max_length : goal.look_beside-requires-else-index-first-clause-at_most_max_length
look_beside-requires-else-index-first-clause-at_most_max_length c = few_cells c.self.inside.cells c.self.inside.lanes.items c.self.inside.limit c.self.invariant

-- the lists of the two lanes
two_lists : (lists : List (Vec LaneCar Global)) (road : ℕ) → road ≡ 2 → road ≡ length lists → (0 < length lists) × (1 < length lists)
two_lists lists road two count = (omega (arith, two, count), omega (arith, two, count))

-- the car of an index below the length of the first list
first_of : (lists : List (Vec LaneCar Global)) (k : ℕ) (first : List LaneCar) → 0 < length lists → first ≡ list_at lists 0 → k < length first → IsFoundAt lists k 0 k
first_of lists k first some is low = found_first lists k some (rw is at low)

-- the car of another index
second_of : (lists : List (Vec LaneCar Global)) (k : ℕ) (first : List LaneCar) → length lists ≤ MAX_LANES → k < sum_by length (lists_of lists) → first ≡ list_at lists 0 → length first ≤ k
    → IsFoundAt lists k 1 (k - length first)
second_of lists k first few below is past = found_later lists k (length first) few below (ap length is) past

pub look_beside-requires-clause-inside : goal.look_beside-requires-clause-inside
look_beside-requires-clause-inside c =
    let n = c.self.inside.cells in
    let lists = c.self.inside.lanes.items in
    let two = rw (← c.self.view_is) at c.requires.two in
    let both = two_lists lists _ two (lanes_count n lists c.self.inside.limit c.self.invariant) in
    let first : c.list_of-first.result.now ≡ list_at lists 0 = c.list_of-first.ensures ∙ ap (λ (ls : List (Vec LaneCar Global)). list_at ls 0) c.deref.ensures.value in
    let f = first_of lists c.args.k c.list_of-first.result.now both.0 first c.if-index-first.true in
    rw (c.place_at-place.ensures, first) (found_inside n lists c.self.inside.limit _ _ _ c.self.invariant.sorted f)

-- the correct result for a car of the first list, and for one of the second
module _ (n : ℕ) (lists given read : List (Vec LaneCar Global)) (limit k x : ℕ) (first second : List LaneCar) (beside : SideGaps) where
  abbrev cells : Cells
  cells = record { limit = limit; lanes = lanes_from n lists }

  abbrev IsRead : Type 0
  IsRead = (given ≡ lists) × (read ≡ lists) × (first ≡ list_at given 0) × (second ≡ list_at read 1)

  first_is : IsRead → first ≡ list_at lists 0
  first_is (same, _, is, _) = is ∙ ap (λ (ls : List (Vec LaneCar Global)). list_at ls 0) same

  second_is : IsRead → second ≡ list_at lists 1
  second_is (_, same, _, is) = is ∙ ap (λ (ls : List (Vec LaneCar Global)). list_at ls 1) same

  first_told : IsListedRoad n lists cells → length (lanes_from n lists) ≡ 2 → IsRead → k < length first → x ≡ place_of first k
      → DescribesSideCell n second x beside → beside.next ≡ cars_before (cells_of n second) x → IsTold cells k beside
  first_told stored two r low at stands next =
      let both = two_lists lists _ two (lanes_count n lists limit stored) in
      told n lists limit k 0 k x first second beside stored both.1 (first_of lists k first both.0 (first_is r) low) (first_is r) (second_is r) at stands next

  second_told : IsListedRoad n lists cells → length (lanes_from n lists) ≡ 2 → IsRead → k < sum_by lane_car_count (lanes_from n lists) → length first ≤ k → x ≡ place_of second (k - length first)
      → DescribesSideCell n first x beside → beside.next ≡ cars_before (cells_of n first) x → IsTold cells k beside
  second_told stored two r below past at stands next =
      let both = two_lists lists _ two (lanes_count n lists limit stored) in
      let f = second_of lists k first (few_lists n lists limit stored) (below_counted n lists limit stored k below) (first_is r) past in
      told n lists limit k 1 (k - length first) x second first beside stored both.0 f (second_is r) (first_is r) at stands next

pub place_at-place-requires-else-index-first : goal.place_at-place-requires-else-index-first
place_at-place-requires-else-index-first c =
    let n = c.self.inside.cells in
    let lists = c.self.inside.lanes.items in
    let limit = c.self.inside.limit in
    let below = below_counted n lists limit c.self.invariant c.args.k (rw (← c.self.view_is) at c.requires.below) in
    let first : c.list_of-first.result.now ≡ list_at lists 0 = c.list_of-first.ensures ∙ ap (λ (ls : List (Vec LaneCar Global)). list_at ls 0) c.deref.ensures.value in
    let second : c.list_of-second.result.now ≡ list_at lists 1 = c.list_of-second.ensures ∙ ap (λ (ls : List (Vec LaneCar Global)). list_at ls 1) c.deref-2.ensures.value in
    let f = second_of lists c.args.k c.list_of-first.result.now (few_lists n lists limit c.self.invariant) below first c.if-index-first.false in
    rw second f.low

pub look_beside-requires-else-index-first-clause-inside : goal.look_beside-requires-else-index-first-clause-inside
look_beside-requires-else-index-first-clause-inside c =
    let n = c.self.inside.cells in
    let lists = c.self.inside.lanes.items in
    let limit = c.self.inside.limit in
    let below = below_counted n lists limit c.self.invariant c.args.k (rw (← c.self.view_is) at c.requires.below) in
    let first : c.list_of-first.result.now ≡ list_at lists 0 = c.list_of-first.ensures ∙ ap (λ (ls : List (Vec LaneCar Global)). list_at ls 0) c.deref.ensures.value in
    let second : c.list_of-second.result.now ≡ list_at lists 1 = c.list_of-second.ensures ∙ ap (λ (ls : List (Vec LaneCar Global)). list_at ls 1) c.deref-2.ensures.value in
    let f = second_of lists c.args.k c.list_of-first.result.now (few_lists n lists limit c.self.invariant) below first c.if-index-first.false in
    rw (c.place_at-place-else-index-first.ensures, second) (found_inside n lists limit _ _ _ c.self.invariant.sorted f)

pub returns-then-index-first-clause-value : goal.returns-then-index-first-clause-value
returns-then-index-first-clause-value c =
    rw (← c.self.view_is) (first_told c.self.inside.cells c.self.inside.lanes.items _ _ c.self.inside.limit c.args.k c.place_at-place.result c.list_of-first.result.now c.list_of-second.result.now c.look_beside.result
    c.self.invariant (rw (← c.self.view_is) at c.requires.two) (c.deref.ensures.value, c.deref-2.ensures.value, c.list_of-first.ensures, c.list_of-second.ensures)
    c.if-index-first.true c.place_at-place.ensures c.look_beside.ensures.beside c.look_beside.ensures.next).value

pub returns-then-index-first-clause-empty : goal.returns-then-index-first-clause-empty
returns-then-index-first-clause-empty c =
    rw (← c.self.view_is) (first_told c.self.inside.cells c.self.inside.lanes.items _ _ c.self.inside.limit c.args.k c.place_at-place.result c.list_of-first.result.now c.list_of-second.result.now c.look_beside.result
    c.self.invariant (rw (← c.self.view_is) at c.requires.two) (c.deref.ensures.value, c.deref-2.ensures.value, c.list_of-first.ensures, c.list_of-second.ensures)
    c.if-index-first.true c.place_at-place.ensures c.look_beside.ensures.beside c.look_beside.ensures.next).empty

pub returns-then-index-first-clause-ahead : goal.returns-then-index-first-clause-ahead
returns-then-index-first-clause-ahead c =
    rw (← c.self.view_is) (first_told c.self.inside.cells c.self.inside.lanes.items _ _ c.self.inside.limit c.args.k c.place_at-place.result c.list_of-first.result.now c.list_of-second.result.now c.look_beside.result
    c.self.invariant (rw (← c.self.view_is) at c.requires.two) (c.deref.ensures.value, c.deref-2.ensures.value, c.list_of-first.ensures, c.list_of-second.ensures)
    c.if-index-first.true c.place_at-place.ensures c.look_beside.ensures.beside c.look_beside.ensures.next).ahead

pub returns-then-index-first-clause-behind : goal.returns-then-index-first-clause-behind
returns-then-index-first-clause-behind c =
    rw (← c.self.view_is) (first_told c.self.inside.cells c.self.inside.lanes.items _ _ c.self.inside.limit c.args.k c.place_at-place.result c.list_of-first.result.now c.list_of-second.result.now c.look_beside.result
    c.self.invariant (rw (← c.self.view_is) at c.requires.two) (c.deref.ensures.value, c.deref-2.ensures.value, c.list_of-first.ensures, c.list_of-second.ensures)
    c.if-index-first.true c.place_at-place.ensures c.look_beside.ensures.beside c.look_beside.ensures.next).behind

pub returns-then-index-first-clause-next : goal.returns-then-index-first-clause-next
returns-then-index-first-clause-next c =
    rw (← c.self.view_is) (first_told c.self.inside.cells c.self.inside.lanes.items _ _ c.self.inside.limit c.args.k c.place_at-place.result c.list_of-first.result.now c.list_of-second.result.now c.look_beside.result
    c.self.invariant (rw (← c.self.view_is) at c.requires.two) (c.deref.ensures.value, c.deref-2.ensures.value, c.list_of-first.ensures, c.list_of-second.ensures)
    c.if-index-first.true c.place_at-place.ensures c.look_beside.ensures.beside c.look_beside.ensures.next).next

pub returns-else-index-first-clause-value : goal.returns-else-index-first-clause-value
returns-else-index-first-clause-value c =
    rw (← c.self.view_is) (second_told c.self.inside.cells c.self.inside.lanes.items _ _ c.self.inside.limit c.args.k c.place_at-place-else-index-first.result c.list_of-first.result.now c.list_of-second.result.now c.look_beside-else-index-first.result
    c.self.invariant (rw (← c.self.view_is) at c.requires.two) (c.deref.ensures.value, c.deref-2.ensures.value, c.list_of-first.ensures, c.list_of-second.ensures)
    (rw (← c.self.view_is) at c.requires.below) c.if-index-first.false c.place_at-place-else-index-first.ensures c.look_beside-else-index-first.ensures.beside c.look_beside-else-index-first.ensures.next).value

pub returns-else-index-first-clause-empty : goal.returns-else-index-first-clause-empty
returns-else-index-first-clause-empty c =
    rw (← c.self.view_is) (second_told c.self.inside.cells c.self.inside.lanes.items _ _ c.self.inside.limit c.args.k c.place_at-place-else-index-first.result c.list_of-first.result.now c.list_of-second.result.now c.look_beside-else-index-first.result
    c.self.invariant (rw (← c.self.view_is) at c.requires.two) (c.deref.ensures.value, c.deref-2.ensures.value, c.list_of-first.ensures, c.list_of-second.ensures)
    (rw (← c.self.view_is) at c.requires.below) c.if-index-first.false c.place_at-place-else-index-first.ensures c.look_beside-else-index-first.ensures.beside c.look_beside-else-index-first.ensures.next).empty

pub returns-else-index-first-clause-ahead : goal.returns-else-index-first-clause-ahead
returns-else-index-first-clause-ahead c =
    rw (← c.self.view_is) (second_told c.self.inside.cells c.self.inside.lanes.items _ _ c.self.inside.limit c.args.k c.place_at-place-else-index-first.result c.list_of-first.result.now c.list_of-second.result.now c.look_beside-else-index-first.result
    c.self.invariant (rw (← c.self.view_is) at c.requires.two) (c.deref.ensures.value, c.deref-2.ensures.value, c.list_of-first.ensures, c.list_of-second.ensures)
    (rw (← c.self.view_is) at c.requires.below) c.if-index-first.false c.place_at-place-else-index-first.ensures c.look_beside-else-index-first.ensures.beside c.look_beside-else-index-first.ensures.next).ahead

pub returns-else-index-first-clause-behind : goal.returns-else-index-first-clause-behind
returns-else-index-first-clause-behind c =
    rw (← c.self.view_is) (second_told c.self.inside.cells c.self.inside.lanes.items _ _ c.self.inside.limit c.args.k c.place_at-place-else-index-first.result c.list_of-first.result.now c.list_of-second.result.now c.look_beside-else-index-first.result
    c.self.invariant (rw (← c.self.view_is) at c.requires.two) (c.deref.ensures.value, c.deref-2.ensures.value, c.list_of-first.ensures, c.list_of-second.ensures)
    (rw (← c.self.view_is) at c.requires.below) c.if-index-first.false c.place_at-place-else-index-first.ensures c.look_beside-else-index-first.ensures.beside c.look_beside-else-index-first.ensures.next).behind

pub returns-else-index-first-clause-next : goal.returns-else-index-first-clause-next
returns-else-index-first-clause-next c =
    rw (← c.self.view_is) (second_told c.self.inside.cells c.self.inside.lanes.items _ _ c.self.inside.limit c.args.k c.place_at-place-else-index-first.result c.list_of-first.result.now c.list_of-second.result.now c.look_beside-else-index-first.result
    c.self.invariant (rw (← c.self.view_is) at c.requires.two) (c.deref.ensures.value, c.deref-2.ensures.value, c.list_of-first.ensures, c.list_of-second.ensures)
    (rw (← c.self.view_is) at c.requires.below) c.if-index-first.false c.place_at-place-else-index-first.ensures c.look_beside-else-index-first.ensures.beside c.look_beside-else-index-first.ensures.next).next
