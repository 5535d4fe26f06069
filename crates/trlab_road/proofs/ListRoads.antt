-- Roads that are kept as sorted lists of cars.
use Rattle.std.proofs.Common.{below_more, Bool, ◌≡◌, ℕ, zero, suc, ◌+◌, ◌-◌, ◌<◌, ◌≤◌, Some, List, [], ◌∷◌}
use Rattle.std.proofs.Common.{◌++◌, Vec, Global, length, get_or, set, take, drop, map, refl, sym, ◌∙◌, ap}
use Rattle.std.proofs.{Common.{subst, arith, sum_by, slice_get, take_at}, lemmas.List.{length-map, take_more}}
use Rattle.std.proofs.lemmas.{List.Sums.{sum_by-cons, sum_by_push}, Option.slice_get-get_or}
use Rattle.trlab_bounds.specs.declared.roads.TheConstants.{MAX_LENGTH, MAX_LIMIT, MAX_LANES}
use Rattle.trlab_road.specs.{declared.car.Car.Car, LaneChange.{LaneCrosses, ChangesLanes, crosses_at}}
use Rattle.trlab_road.specs.Stored.{LaneCar, lists_of, cells_of, IsSortedFrom, no_car, place_of, car_on}
use Rattle.trlab_road.specs.Stored.{lanes_from, list_at, AreSorted, IsListedRoad, IsFoundAt, SpeedsFitGaps}
use Rattle.trlab_road.{specs.Stored.{SpeedsMove, lane_answer, lane_crosses_at}, proofs.ListMotion.rank_kth}
use Rattle.trlab_road.specs.Cells.{Lane, Cells, at, cell, cars, lane_car_count, standing, standing_from, rank}
use Rattle.trlab_road.{specs.Motion.{in_order, AreSafeSpeeds, LaneFits, LaneMoves, Moves}, proofs.Ring.car_in}
use Rattle.trlab_road.proofs.MotionInOrder.{answer_at, allowed_fits}
use Rattle.trlab_road.proofs.RoadCars.{in_order_kth, cars_more, cars_within}
use Rattle.trlab_road.proofs.StandingOrder.{car_of, standing_rank, rank_below_cars, length-standing_from_lane}
use Rattle.trlab_road.proofs.Lists.{length_cells, at_kth, cars_of_list, rises_high, standing_list}

-- the lane of a list
pub lane_from : (n : ℕ) (lists : List (Vec LaneCar Global)) (l : ℕ) → l < length lists → get_or (lanes_from n lists) l [] ≡ cells_of n (list_at lists l)
lane_from n [] l h = absurd (omega arith)
lane_from n (v ∷ lists) zero h = refl
lane_from n (v ∷ lists) (suc l) h = lane_from n lists l (omega arith)

pub sorted_rest : (n : ℕ) (v : Vec LaneCar Global) (lists : List (Vec LaneCar Global)) → AreSorted n (v ∷ lists) → AreSorted n lists
sorted_rest n v lists s = record { rises = λ l h. s.rises (suc l) (omega arith) }

-- the number of cars of all lists, and of the first lists
pub counted : (n : ℕ) (lists : List (Vec LaneCar Global)) → AreSorted n lists → sum_by lane_car_count (lanes_from n lists) ≡ sum_by length (lists_of lists)
counted n [] s = refl
counted n (v ∷ lists) s =
    let a = sum_by-cons lane_car_count (cells_of n v.items) (lanes_from n lists) in
    let b = cars_of_list n v.items (s.rises 0 (omega arith)) in
    let d = sum_by-cons length v.items (lists_of lists) in
    let e = counted n lists (sorted_rest n v lists s) in
    omega (arith, a, b, d, e)

pub counted_before : (n : ℕ) (lists : List (Vec LaneCar Global)) (l : ℕ) → AreSorted n lists → sum_by lane_car_count (take l (lanes_from n lists)) ≡ sum_by length (take l (lists_of lists))
counted_before n [] zero s = refl
counted_before n [] (suc l) s = refl
counted_before n (v ∷ lists) zero s = refl
counted_before n (v ∷ lists) (suc l) s =
    let a = sum_by-cons lane_car_count (cells_of n v.items) (take l (lanes_from n lists)) in
    let b = cars_of_list n v.items (s.rises 0 (omega arith)) in
    let d = sum_by-cons length v.items (take l (lists_of lists)) in
    let e = counted_before n lists l (sorted_rest n v lists s) in
    omega (arith, a, b, d, e)

pub one_list_more : (lists : List (Vec LaneCar Global)) (l : ℕ) → l < length lists → sum_by length (take (l + 1) (lists_of lists)) ≡ sum_by length (take l (lists_of lists)) + length (list_at lists l)
one_list_more lists l h = rw (take_more (lists_of lists) l [] (rw length-map h)) (sum_by_push length (take l (lists_of lists)) (list_at lists l))

-- one or two lists: an index is one of the first list, or else one of the second
pub found_second : (lists : List (Vec LaneCar Global)) (k : ℕ) → length lists ≤ MAX_LANES → k < sum_by length (lists_of lists) → length (list_at lists 0) ≤ k → IsFoundAt lists k 1 (k - length (list_at lists 0))
found_second [] k few h past = absurd (omega arith)
found_second (v ∷ []) k few h past = let a = sum_by-cons length v.items [] in absurd (omega (arith, a, h, past))
found_second (v ∷ w ∷ []) k few h past =
    let a = sum_by-cons length v.items (w.items ∷ []) in
    let b = sum_by-cons length w.items [] in
    let d = sum_by-cons length v.items [] in
    record { on_lane = omega arith; low = omega (arith, a, b, h, past); order = omega (arith, d, past) }
found_second (v ∷ w ∷ u ∷ lists) k few h past = absurd (omega arith)

-- the k-th car, once it is found, is in the cell of its place
module _ (n : ℕ) (lists : List (Vec LaneCar Global)) (limit k l i : ℕ) (s : AreSorted n lists) (f : IsFoundAt lists k l i) where
  abbrev road : Cells
  road = record { limit = limit; lanes = lanes_from n lists }

  abbrev car : LaneCar
  car = get_or (list_at lists l) i no_car

  pub found_inside : car.place < n
  found_inside = rises_high 0 n (list_at lists l) i (s.rises l f.on_lane) f.low

  pub found_cell : cell road l car.place ≡ Some (car.number, car.speed)
  found_cell = ap (λ (lane : Lane). at lane car.place) (lane_from n lists l f.on_lane) ∙ at_kth n (list_at lists l) i (s.rises l f.on_lane) f.low

  found_rank : rank road l car.place ≡ k
  found_rank =
      let e = ap (λ (lane : Lane). lane_car_count (take car.place lane)) (lane_from n lists l f.on_lane) ∙ rank_kth n (list_at lists l) i (s.rises l f.on_lane) f.low in
      let o = f.order in
      let q = counted_before n lists l s in
      omega (arith, e, o, q)

  pub found_standing : slice_get (standing road) k ≡ Some (car_on l car)
  unfolding car_of
  found_standing =
      let below : k < cars road = subst (λ m. m < cars road) found_rank (rank_below_cars road l car.place (car.number, car.speed) found_cell) in
      slice_get-get_or (standing road) k (car_on 0 no_car) (rw length-standing_from_lane below)
      ∙ ap Some (ap (λ m. get_or (standing road) m (car_on 0 no_car)) (sym found_rank) ∙ standing_rank road l car.place car.number car.speed (car_on 0 no_car) found_cell)

-- the list that an index of the lists reads
pub list_read : (lists : List (Vec LaneCar Global)) (l : ℕ) (v : Vec LaneCar Global) → l < length lists → v ≡ get_or lists l v → v.items ≡ list_at lists l
list_read [] l v h is = absurd (omega arith)
list_read (w ∷ lists) zero v h is = ap (λ (u : Vec LaneCar Global). u.items) is
list_read (w ∷ lists) (suc l) v h is = list_read lists l v (omega arith) is

pub list_here : (lists : List (Vec LaneCar Global)) (l : ℕ) (v : Vec LaneCar Global) → l < length lists → (get_or lists l v).items ≡ list_at lists l
list_here [] l v h = absurd (omega arith)
list_here (w ∷ lists) zero v h = refl
list_here (w ∷ lists) (suc l) v h = list_here lists l v (omega arith)

-- the lists after one of them was written
pub list_written : (lists : List (Vec LaneCar Global)) (l : ℕ) (v : Vec LaneCar Global) → l < length lists → list_at (set lists l v) l ≡ v.items
list_written [] l v h = absurd (omega arith)
list_written (w ∷ lists) zero v h = refl
list_written (w ∷ lists) (suc l) v h = list_written lists l v (omega arith)

pub list_unwritten : (lists : List (Vec LaneCar Global)) (l j : ℕ) (v : Vec LaneCar Global) → (j ≡ l → ⊥) → list_at (set lists l v) j ≡ list_at lists j
list_unwritten [] l j v other = refl
list_unwritten (w ∷ lists) zero zero v other = absurd (other refl)
list_unwritten (w ∷ lists) zero (suc j) v other = refl
list_unwritten (w ∷ lists) (suc l) zero v other = refl
list_unwritten (w ∷ lists) (suc l) (suc j) v other = list_unwritten lists l j v (λ e. other (ap suc e))

-- lists that were all written
pub all_written : (old next : List (Vec LaneCar Global)) (k : ℕ) → k ≡ length old → length next ≡ length old → take k (next ++ drop (length next) old) ≡ next
all_written old next k e same = take_at next _ k (same ∙ sym e)

pub two_written : (old : List (Vec LaneCar Global)) (v w : Vec LaneCar Global) → length old ≡ 2 → set (set old 0 v) 1 w ≡ v ∷ w ∷ []
two_written [] v w two = absurd (omega (arith, two))
two_written (a ∷ []) v w two = absurd (omega (arith, two))
two_written (a ∷ b ∷ []) v w two = refl
two_written (a ∷ b ∷ d ∷ old) v w two = absurd (omega (arith, two))

pub two_sorted : (n : ℕ) (v w : Vec LaneCar Global) → IsSortedFrom 0 n v.items → IsSortedFrom 0 n w.items → AreSorted n (v ∷ w ∷ [])
two_sorted n v w first second = record { rises = below_more (λ l. IsSortedFrom 0 n (list_at (v ∷ w ∷ []) l)) 1 (below_more (λ l. IsSortedFrom 0 n (list_at (v ∷ w ∷ []) l)) 0 (λ l h. absurd (omega (arith, h))) first) second }

pub some_list : (lists : List (Vec LaneCar Global)) (k : ℕ) → k < sum_by length (lists_of lists) → 0 < length lists
some_list [] k h = absurd (omega arith)
some_list (v ∷ lists) k h = omega arith

pub found_later : (lists : List (Vec LaneCar Global)) (k m : ℕ) → length lists ≤ MAX_LANES → k < sum_by length (lists_of lists) → m ≡ length (list_at lists 0) → m ≤ k → IsFoundAt lists k 1 (k - m)
found_later lists k m few h e past = rw e (found_second lists k few h (omega arith))

-- a sorted list has no more cars than cells
pub rises_length : (x n : ℕ) (cars : List LaneCar) → IsSortedFrom x n cars → x ≤ n → x + length cars ≤ n
rises_length x n [] r le = omega arith
rises_length x n (car ∷ cars) r le = let low = r.0 in let high = r.1 in let k = rises_length (suc car.place) n cars r.2 (omega arith) in omega (arith, low, k)

-- a road that keeps its lists sorted
module _ (n : ℕ) (lists : List (Vec LaneCar Global)) (limit : ℕ) (kept : IsListedRoad n lists (record { limit = limit; lanes = lanes_from n lists })) where
  pub lanes_count : length (lanes_from n lists) ≡ length lists
  lanes_count = length-map lists (λ (v : Vec LaneCar Global). cells_of n v.items)

  pub length_first : length (get_or (lanes_from n lists) 0 []) ≡ n
  length_first = let some = kept.legal.shape.lanes.some_lane in ap length (lane_from n lists 0 (omega (arith, some, lanes_count))) ∙ length_cells n (list_at lists 0)

  pub few_cells : n ≤ MAX_LENGTH
  few_cells = let a = kept.legal.shape.cells.few_cells in let b = length_first in omega (arith, a, b)

  pub few_lists : length lists ≤ MAX_LANES
  few_lists = let a = kept.legal.shape.lanes.few_lanes in let b = lanes_count in omega (arith, a, b)

  pub few_cars : (l : ℕ) → l < length lists → length (list_at lists l) ≤ MAX_LENGTH
  few_cars l h = let a = rises_length 0 n (list_at lists l) (kept.sorted.rises l h) (omega arith) in let b = few_cells in omega (arith, a, b)

  pub below_counted : (k : ℕ) → k < sum_by lane_car_count (lanes_from n lists) → k < sum_by length (lists_of lists)
  below_counted k low = let a = counted n lists kept.sorted in omega (arith, a, low)

-- no car is faster than the largest limit
pub slow_list : (n : ℕ) (lists : List (Vec LaneCar Global)) (limit : ℕ) → IsListedRoad n lists (record { limit = limit; lanes = lanes_from n lists })
    → (l : ℕ) → l < length lists → (k : ℕ) → k < length (list_at lists l) → (get_or (list_at lists l) k no_car).speed ≤ MAX_LIMIT
slow_list n lists limit kept l on k low =
    let car = get_or (list_at lists l) k no_car in
    let there = ap (λ (lane : Lane). at lane car.place) (lane_from n lists l on) ∙ at_kth n (list_at lists l) k (kept.sorted.rises l on) low in
    let a = kept.legal.within_limit (car_in l car.place car.number car.speed) there in
    let b = kept.legal.shape.limit.low_limit in
    omega (arith, a, b)

some_same : {a b : Car} → Some a ≡ Some b → a ≡ b
some_same e = cc

-- the value of a function of lane and place for the car that is found
module _ {X : Type 0} (F : ℕ → ℕ → X) (n : ℕ) (lists : List (Vec LaneCar Global)) (limit k l i : ℕ) (s : AreSorted n lists) (f : IsFoundAt lists k l i) (v : X) (is : v ≡ F l (place_of (list_at lists l) i)) where
  pub found_by : (car : Car) → slice_get (standing (record { limit = limit; lanes = lanes_from n lists })) k ≡ Some car → v ≡ F car.lane car.place
  found_by c h = is ∙ ap (λ (c : Car). F c.lane c.place) (some_same (sym (found_standing n lists limit k l i s f) ∙ h))

  pub found_in_order : (e : X) → v ≡ get_or (in_order F (record { limit = limit; lanes = lanes_from n lists })) k e
  found_in_order e = is ∙ sym (in_order_kth F (record { limit = limit; lanes = lanes_from n lists }) k (car_on l (get_or (list_at lists l) i no_car)) e (found_standing n lists limit k l i s f))

-- numbers of cars, by the lengths of the lists
pub list_count : (n : ℕ) (lists : List (Vec LaneCar Global)) (l : ℕ) → AreSorted n lists → l < length lists → lane_car_count (get_or (lanes_from n lists) l []) ≡ length (list_at lists l)
list_count n lists l s h = ap lane_car_count (lane_from n lists l h) ∙ cars_of_list n (list_at lists l) (s.rises l h)

on_lanes : (n : ℕ) (lists : List (Vec LaneCar Global)) (l : ℕ) → l < length lists → l < length (lanes_from n lists)
on_lanes n lists l h = rw length-map h

pub list_counted : (n : ℕ) (lists : List (Vec LaneCar Global)) (l : ℕ) → AreSorted n lists → l < length lists → sum_by lane_car_count (take (l + 1) (lanes_from n lists)) ≡ sum_by lane_car_count (take l (lanes_from n lists)) + length (list_at lists l)
list_counted n lists l s h = let a = cars_more (lanes_from n lists) l (on_lanes n lists l h) in let b = list_count n lists l s h in omega (arith, a, b)

pub list_within : (n : ℕ) (lists : List (Vec LaneCar Global)) (l : ℕ) → AreSorted n lists → l < length lists → sum_by lane_car_count (take l (lanes_from n lists)) + length (list_at lists l) ≤ sum_by lane_car_count (lanes_from n lists)
list_within n lists l s h = let a = cars_within (lanes_from n lists) l (on_lanes n lists l h) in let b = list_count n lists l s h in omega (arith, a, b)

-- lists after a push
list_same : (vs : List (Vec LaneCar Global)) (v : Vec LaneCar Global) (j : ℕ) → j < length vs → list_at (vs ++ v ∷ []) j ≡ list_at vs j
list_same [] v j h = absurd (omega arith)
list_same (w ∷ vs) v zero h = refl
list_same (w ∷ vs) v (suc j) h = list_same vs v j (omega arith)

list_last : (vs : List (Vec LaneCar Global)) (v : Vec LaneCar Global) (j : ℕ) → length vs ≡ j → list_at (vs ++ v ∷ []) j ≡ v.items
list_last [] v zero h = refl
list_last [] v (suc j) h = absurd (omega arith)
list_last (w ∷ vs) v zero h = absurd (omega arith)
list_last (w ∷ vs) v (suc j) h = list_last vs v j (omega arith)

pub one_more : (P : ℕ → List LaneCar → Type 0) (next : List (Vec LaneCar Global)) (v : Vec LaneCar Global) (i : ℕ) → length next ≡ i → ((j : ℕ) → j < i → P j (list_at next j)) → P i v.items → (j : ℕ) → j < i + 1 → P j (list_at (next ++ v ∷ []) j)
one_more P next v i size before last = below_more _ _
    (λ j h. subst (P j) (sym (list_same next v j (rw size h))) (before j h))
    (subst (P i) (sym (list_last next v i size)) last)

-- two lanes
two_lanes : (P : ℕ → Type 0) → P 0 → P 1 → (l : ℕ) → l < 2 → P l
two_lanes P a b zero h = a
two_lanes P a b (suc zero) h = b
two_lanes P a b (suc (suc l)) h = absurd (omega arith)

pub crosses_two : (n limit : ℕ) (lists : List (Vec LaneCar Global)) (a b : Vec LaneCar Global) (answers : List Bool) → length lists ≡ 2
    → LaneCrosses (lane_crosses_at (cells_of n (list_at lists 0)) answers (sum_by lane_car_count (take 0 (lanes_from n lists)))) (lane_crosses_at (cells_of n (list_at lists 1)) answers (sum_by lane_car_count (take 1 (lanes_from n lists)))) (cells_of n (list_at lists 0)) (cells_of n (list_at lists 1)) (cells_of n a.items)
    → LaneCrosses (lane_crosses_at (cells_of n (list_at lists 1)) answers (sum_by lane_car_count (take 1 (lanes_from n lists)))) (lane_crosses_at (cells_of n (list_at lists 0)) answers (sum_by lane_car_count (take 0 (lanes_from n lists)))) (cells_of n (list_at lists 1)) (cells_of n (list_at lists 0)) (cells_of n b.items)
    → ChangesLanes (crosses_at (record { limit = limit; lanes = lanes_from n lists }) answers) (record { limit = limit; lanes = lanes_from n lists }) (record { limit = limit; lanes = lanes_from n (a ∷ b ∷ []) })
crosses_two n limit [] a b answers two first second = absurd (omega arith)
crosses_two n limit (v ∷ []) a b answers two first second = absurd (omega arith)
crosses_two n limit (v ∷ w ∷ []) a b answers two first second = record { same_limit = refl; same_lanes = refl; each_lane = two_lanes _ first second }
crosses_two n limit (v ∷ w ∷ u ∷ lists) a b answers two first second = absurd (omega arith)

-- from the lists to the road: the motion
pub lists_fit : (n limit : ℕ) (lists : List (Vec LaneCar Global)) (answers : List ℕ) → AreSafeSpeeds (record { limit = limit; lanes = lanes_from n lists }) answers → SpeedsFitGaps n lists answers
lists_fit n limit lists answers allowed = record {
  each_lane = λ l h. subst (λ (lane : Lane). LaneFits (lane_answer lane answers (sum_by lane_car_count (take l (lanes_from n lists)))) lane) (lane_from n lists l h)
      ((allowed_fits (record { limit = limit; lanes = lanes_from n lists }) answers allowed).each_lane l (on_lanes n lists l h));
}

pub lists_move : (n limit : ℕ) (lists next : List (Vec LaneCar Global)) (answers : List ℕ) → SpeedsMove n lists next answers
    → Moves (answer_at (record { limit = limit; lanes = lanes_from n lists }) answers) (record { limit = limit; lanes = lanes_from n lists }) (record { limit = limit; lanes = lanes_from n next })
lists_move n limit lists next answers m = record {
  same_limit = refl;
  same_lanes = rw (length-map, length-map) m.same_lanes;
  each_lane = λ l h. let on : l < length lists = rw length-map at h in
      subst (λ (lane : Lane). LaneMoves (lane_answer (get_or (lanes_from n lists) l []) answers (sum_by lane_car_count (take l (lanes_from n lists)))) (get_or (lanes_from n lists) l []) lane) (sym (lane_from n next l (let e = m.same_lanes in omega arith)))
      (subst (λ (lane : Lane). LaneMoves (lane_answer lane answers (sum_by lane_car_count (take l (lanes_from n lists)))) lane (cells_of n (list_at next l))) (sym (lane_from n lists l on)) (m.each_lane l on));
}

pub allowed_count : (n limit : ℕ) (lists : List (Vec LaneCar Global)) (answers : List ℕ) → AreSafeSpeeds (record { limit = limit; lanes = lanes_from n lists }) answers → sum_by lane_car_count (lanes_from n lists) ≤ length answers
allowed_count n limit lists answers allowed = let e = allowed.one_each in omega (arith, e)

-- a sorted list is determined by its cells
abbrev off : Car → LaneCar
off car = record { number = car.number; place = car.place; speed = car.speed }

off_on : (cars : List LaneCar) → map off (map (car_on 0) cars) ≡ cars
off_on [] = refl
off_on (car ∷ cars) = ap (λ cs. car ∷ cs) (off_on cars)

pub list_told : (n : ℕ) (cars others : List LaneCar) → IsSortedFrom 0 n cars → IsSortedFrom 0 n others → cells_of n cars ≡ cells_of n others → cars ≡ others
list_told n cars others r s e =
    sym (off_on cars) ∙ ap (map off) (sym (standing_list 0 n cars r) ∙ ap (standing_from 0 0) e ∙ standing_list 0 n others s) ∙ off_on others
