-- Properties of the lane change, for any code that writes the new road.
use Rattle.std.proofs.Common.{◌≡◌, ℕ, zero, suc, ◌+◌, ◌<◌, ◌≤◌, Bool, true, false, cond, Some, None, List, []}
use Rattle.std.proofs.Common.{◌∷◌, length, get_or, take, refl, sym, ◌∙◌, ap, subst, inl, inr, arith, is_some}
use Rattle.std.{proofs.Common.{is_none, sum_by, true≢false, ext_get_or, take_all}, specs.Option.option_or}
use Rattle.std.proofs.lemmas.{Bool.{cases_Bool, cond-true, cond-false}, List.Sums.sum_by-cons}
use Rattle.std.proofs.lemmas.List.FromFn.{length-map-range_with_len, get_or-map-range_with_len}
use Rattle.trlab_road.specs.Cells.{Cell, Lane, Cells, at, cell, lane_of, cars, lane_car_count, AgreeAtCars}
use Rattle.trlab_road.specs.Cells.{IsLegal, LanesFit, LengthFits, LimitFits}
use Rattle.trlab_road.specs.LaneChange.{other_lane, cell_after_change, ChangesLanes, lane_after_change}
use Rattle.trlab_road.specs.LaneChange.{road_after_change, CrossesToEmpty, StaysOrCrosses, IsCleanLaneChange}
use Rattle.trlab_road.specs.LaneChange.StaysOrCrosses.{on_own_lane, on_other_lane}
use Rattle.trlab_road.proofs.{Ring.{inside, car_in}, MotionLaws.on_lane}

-- `road_after_change` is the lane change
pub road_after_change_is : (crosses : ℕ → ℕ → Bool) (road : Cells) → ChangesLanes crosses road (road_after_change crosses road)
road_after_change_is crosses road = record {
  same_limit = refl;
  same_lanes = length-map-range_with_len (lane_after_change crosses road) 0 (length road.lanes);
  each_lane = λ l h.
      let e : 0 + l ≡ l = omega arith in
      let lane = get_or-map-range_with_len (lane_after_change crosses road) 0 (length road.lanes) l l [] h e in
      rw lane (record {
        same_length = length-map-range_with_len _ 0 (length (lane_of road l));
        each_cell = λ x k. let d : 0 + x ≡ x = omega arith in get_or-map-range_with_len _ 0 (length (lane_of road l)) x x None k d;
      });
}

abbrev made : ℕ → List Lane → Cells
made limit lanes = record { limit = limit; lanes = lanes }

-- the lane change has only one result
pub one_road_after_change : (crosses : ℕ → ℕ → Bool) (old new other : Cells) → ChangesLanes crosses old new
    → ChangesLanes crosses old other → new ≡ other
one_road_after_change crosses old new other m n =
    let lanes : new.lanes ≡ other.lanes =
    ext_get_or [] new.lanes other.lanes (m.same_lanes ∙ sym n.same_lanes)
    (λ l h.
    let k : l < length old.lanes = rw m.same_lanes at h in
    let a = m.each_lane l k in
    let b = n.each_lane l k in
    ext_get_or None (lane_of new l) (lane_of other l) (a.same_length ∙ sym b.same_length)
    (λ x g. let i : x < length (lane_of old l) = rw a.same_length at g in a.each_cell x i ∙ sym (b.each_cell x i))) in
    let limit : new.limit ≡ other.limit = m.same_limit ∙ sym n.same_limit in
    ap (λ (p : ℕ). made p new.lanes) limit ∙ ap (made other.limit) lanes

-- the car of a cell after the lane change
pub data Whose (p q : Bool) (own beside : Cell) (car : ℕ × ℕ) : Type 0 where
  its_own : p ≡ false → own ≡ Some car → Whose p q own beside car
  from_beside : q ≡ true → beside ≡ Some car → Whose p q own beside car

whose : (p q : Bool) (own beside : Cell) (car : ℕ × ℕ) → cell_after_change p q own beside ≡ Some car
    → Whose p q own beside car
whose true true own beside car h = from_beside refl h
whose true false own beside car h = absurd cc
whose false q (Some a) beside car h = its_own refl h
whose false true None beside car h = from_beside refl h
whose false false None beside car h = absurd cc

abbrev one_if : Cell → ℕ
one_if c = cond (is_some c) 1 0

-- a pair of side cells keeps its cars
pair_kept : (p q : Bool) (a b : Cell) → ((u : ℕ × ℕ) → a ≡ Some u → p ≡ true → b ≡ None)
    → ((u : ℕ × ℕ) → b ≡ Some u → q ≡ true → a ≡ None)
    → cond (is_some (cell_after_change p q a b)) 1 0 + cond (is_some (cell_after_change q p b a)) 1 0 ≡ cond (is_some a) 1 0 + cond (is_some b) 1 0
pair_kept true true None None f g = refl
pair_kept true false None None f g = refl
pair_kept false true None None f g = refl
pair_kept false false None None f g = refl
pair_kept true true (Some a) None f g = refl
pair_kept true false (Some a) None f g = refl
pair_kept false true (Some a) None f g = refl
pair_kept false false (Some a) None f g = refl
pair_kept true true None (Some b) f g = refl
pair_kept true false None (Some b) f g = refl
pair_kept false true None (Some b) f g = refl
pair_kept false false None (Some b) f g = refl
pair_kept true q (Some a) (Some b) f g = let e = f a refl refl in absurd cc
pair_kept false true (Some a) (Some b) f g = let e = g b refl refl in absurd cc
pair_kept false false (Some a) (Some b) f g = refl

remains : (p q : Bool) (own beside : Cell) (car : ℕ × ℕ) → p ≡ false → own ≡ Some car
    → cell_after_change p q own beside ≡ Some car
remains true q own beside car e h = absurd (true≢false e)
remains false q None beside car e h = absurd cc
remains false q (Some a) beside car e h = h

comes : (p q : Bool) (own beside : Cell) (car : ℕ × ℕ) → own ≡ None → q ≡ true → beside ≡ Some car
    → cell_after_change p q own beside ≡ Some car
comes p false own beside car e f h = absurd (true≢false (sym f))
comes true true own beside car e f h = h
comes false true None beside car e f h = h
comes false true (Some a) beside car e f h = absurd cc

-- the cars of one more place
pub lane_cars_suc : (lane : Lane) (x : ℕ) → x < length lane
    → lane_car_count (take (suc x) lane) ≡ lane_car_count (take x lane) + cond (is_some (at lane x)) 1 0
lane_cars_suc [] x h = absurd (omega arith)
lane_cars_suc (c ∷ lane) zero h = let e = sum_by-cons (λ (d : Cell). cond (is_some d) 1 0) c [] in omega arith
lane_cars_suc (c ∷ lane) (suc x) h =
    let a = sum_by-cons (λ (d : Cell). cond (is_some d) 1 0) c (take (suc x) lane) in
    let b = sum_by-cons (λ (d : Cell). cond (is_some d) 1 0) c (take x lane) in
    let k = lane_cars_suc lane x (omega arith) in
    omega arith

two_sum : (lanes : List Lane) → length lanes ≡ 2
    → sum_by lane_car_count lanes ≡ lane_car_count (get_or lanes 0 []) + lane_car_count (get_or lanes 1 [])
two_sum [] h = absurd (omega arith)
two_sum (a ∷ []) h = absurd (omega arith)
two_sum (a ∷ b ∷ []) h =
    let e = sum_by-cons lane_car_count a (b ∷ []) in
    let f = sum_by-cons lane_car_count b [] in
    omega arith
two_sum (a ∷ b ∷ c ∷ rest) h = absurd (omega arith)

pair_path : {a b x y : ℕ} → a ≡ b → x ≡ y → ◌≡◌ {A = ℕ × ℕ} (a, x) (b, y)
pair_path e f = cc

none_of : (c : Cell) → is_none c ≡ true → c ≡ None
none_of None h = refl
none_of (Some car) h = absurd cc

module _ (crosses : ℕ → ℕ → Bool) (old new : Cells) (legal : IsLegal old) (m : ChangesLanes crosses old new) where
  -- the car of a cell came from the cell that its answer implies
  pub came_from : (l x : ℕ) (car : ℕ × ℕ) → cell new l x ≡ Some car
      → (from : ℕ) × ((cell old from x ≡ Some car) × (l ≡ cond (crosses from x) (other_lane from) from))
  came_from l x car h =
      let on = on_lane new l x car h in
      let below : l < length old.lanes = rw m.same_lanes at on in
      let few = legal.shape.lanes.few_lanes in
      let lane = m.each_lane l below in
      let within = inside (lane_of new l) x car h in
      let here : x < length (lane_of old l) = rw lane.same_length at within in
      elim (whose (crosses l x) (crosses (other_lane l) x) (cell old l x) (cell old (other_lane l) x) car (sym (lane.each_cell x here) ∙ h)) [
        | its_own stays own ↦ (l, (own, sym (cond-false (crosses l x) (other_lane l) l stays)))
        | from_beside goes beside ↦
            let back : other_lane (other_lane l) ≡ l = omega arith in
            (other_lane l, (beside, sym (cond-true (crosses (other_lane l) x) (other_lane (other_lane l)) (other_lane l) goes ∙ back)))
      ]

  module _ (free : CrossesToEmpty crosses old) where
    -- a road of two lanes
    one_of : (l : ℕ) → l < 2 → l < length old.lanes
    one_of l h = rw free.two_lanes h

    equal : (l : ℕ) → l < 2 → length (lane_of old l) ≡ length (lane_of old 0)
    equal l h = legal.shape.equal l (one_of l h)

    pub lane_change_none_lost : (l x : ℕ) (number speed : ℕ) → cell old l x ≡ Some (number, speed)
        → StaysOrCrosses old new (car_in l x number speed)
    lane_change_none_lost l x number speed h =
        let on = on_lane old l x (number, speed) h in
        let low : l < 2 = rw free.two_lanes at on in
        let within = inside (lane_of old l) x (number, speed) h in
        let o = other_lane l in
        let o_low : o < 2 = omega arith in
        let back : other_lane o ≡ l = omega arith in
        let lane = m.each_lane l (one_of l low) in
        let side = m.each_lane o (one_of o o_low) in
        let same = equal l low in
        let same_side = equal o o_low in
        elim (cases_Bool (crosses l x)) [
          | inl goes ↦
              let empty = free.side_empty (car_in l x number speed) h goes in
              on_other_lane empty (side.each_cell x (omega arith)
              ∙ comes (crosses o x) (crosses (other_lane o) x) (cell old o x) (cell old (other_lane o) x) (number, speed) empty
              (subst (λ k. crosses k x ≡ true) (sym back) goes) (subst (λ k. cell old k x ≡ Some (number, speed)) (sym back) h))
          | inr stays ↦ on_own_lane (lane.each_cell x within ∙ remains (crosses l x) (crosses o x) (cell old l x) (cell old o x) (number, speed) stays h)
        ]

    taken_same : (x : ℕ) → x ≤ length (lane_of old 0)
        → lane_car_count (take x (lane_of new 0)) + lane_car_count (take x (lane_of new 1)) ≡ lane_car_count (take x (lane_of old 0)) + lane_car_count (take x (lane_of old 1))
    taken_same zero h = refl
    taken_same (suc x) h =
        let first = m.each_lane 0 (one_of 0 (omega arith)) in
        let second = m.each_lane 1 (one_of 1 (omega arith)) in
        let n0 = first.same_length in
        let n1 = second.same_length in
        let o1 = equal 1 (omega arith) in
        let a = lane_cars_suc (lane_of new 0) x (omega arith) in
        let b = lane_cars_suc (lane_of new 1) x (omega arith) in
        let c = lane_cars_suc (lane_of old 0) x (omega arith) in
        let d = lane_cars_suc (lane_of old 1) x (omega arith) in
        let rest = taken_same x (omega arith) in
        let pair = pair_kept (crosses 0 x) (crosses 1 x) (cell old 0 x) (cell old 1 x)
        (λ u here goes. free.side_empty (car_in 0 x u.0 u.1) here goes) (λ u here goes. free.side_empty (car_in 1 x u.0 u.1) here goes) in
        let e = ap one_if (first.each_cell x (omega arith)) in
        let f = ap one_if (second.each_cell x (omega arith)) in
        omega (arith, a, b, c, d, rest, pair, e, f)

    pub lane_change_same_count : cars new ≡ cars old
    lane_change_same_count =
        let n = length (lane_of old 0) in
        let first = m.each_lane 0 (one_of 0 (omega arith)) in
        let second = m.each_lane 1 (one_of 1 (omega arith)) in
        let n0 = first.same_length in
        let n1 = second.same_length in
        let o1 = equal 1 (omega arith) in
        let all = taken_same n (omega arith) in
        let a = ap lane_car_count (take_all n (lane_of new 0) (omega arith)) in
        let b = ap lane_car_count (take_all n (lane_of new 1) (omega arith)) in
        let c = ap lane_car_count (take_all n (lane_of old 0) (omega arith)) in
        let d = ap lane_car_count (take_all n (lane_of old 1) (omega arith)) in
        let x = two_sum old.lanes free.two_lanes in
        let y = two_sum new.lanes (m.same_lanes ∙ free.two_lanes) in
        omega (arith, all, a, b, c, d, x, y)

    pub lane_change_clean : IsCleanLaneChange old new
    lane_change_clean = record {
      same_count = lane_change_same_count;
      none_lost = λ car h. lane_change_none_lost car.lane car.place car.number car.speed h;
      none_made = λ car h. let came = came_from car.lane car.place (car.number, car.speed) h in (came.0, came.1.0);
    }

    -- the lane change keeps a road legal
    pub lane_change_legal : IsLegal new
    lane_change_legal =
        let first = m.each_lane 0 legal.shape.lanes.some_lane in
        record {
          shape = record {
            lanes = subst LanesFit (sym m.same_lanes) legal.shape.lanes;
            cells = subst LengthFits (sym first.same_length) legal.shape.cells;
            equal = λ l h. let k : l < length old.lanes = rw m.same_lanes at h in (m.each_lane l k).same_length ∙ legal.shape.equal l k ∙ sym first.same_length;
            limit = subst LimitFits (sym m.same_limit) legal.shape.limit;
          };
          within_limit = λ car h.
              let came = came_from car.lane car.place (car.number, car.speed) h in
              rw m.same_limit (legal.within_limit (car_in came.0 car.place car.number car.speed) came.1.0);
          numbered = λ car h.
              let came = came_from car.lane car.place (car.number, car.speed) h in
              rw lane_change_same_count (legal.numbered (car_in came.0 car.place car.number car.speed) came.1.0);
          once = λ car other h g same_number.
              let a = came_from car.lane car.place (car.number, car.speed) h in
              let b = came_from other.lane other.place (other.number, other.speed) g in
              let same = legal.once (car_in a.0 car.place car.number car.speed) (car_in b.0 other.place other.number other.speed) a.1.0 b.1.0 same_number in
              (a.1.1 ∙ ap (λ (p : ℕ × ℕ). cond (crosses p.0 p.1) (other_lane p.0) p.0) (pair_path same.0 same.1) ∙ sym b.1.1, same.1);
        }

none_either : (p : Bool) → ◌≡◌ {A = Cell} (cond p None None) None
none_either true = refl
none_either false = refl

both_none : (q s : Bool) → ◌≡◌ {A = Cell} (cond q None None) (cond s None None)
both_none q s = none_either q ∙ sym (none_either s)

none_first : (p r : Bool) (c : Cell) → option_or (cond p None None) c ≡ option_or (cond r None None) c
none_first p r c = rw (none_either p, none_either r) refl

-- the lane change depends on the answers only at cars
same_cell_after : (p q r s : Bool) (own beside : Cell) → ((u : ℕ × ℕ) → own ≡ Some u → p ≡ r)
    → ((u : ℕ × ℕ) → beside ≡ Some u → q ≡ s) → cell_after_change p q own beside ≡ cell_after_change r s own beside
same_cell_after p q r s (Some a) (Some b) f g = rw (f a refl, g b refl) refl
same_cell_after true q true s (Some a) None f g = both_none q s
same_cell_after false q false s (Some a) None f g = refl
same_cell_after true q false s (Some a) None f g = absurd (true≢false (f a refl))
same_cell_after false q true s (Some a) None f g = absurd (true≢false (sym (f a refl)))
same_cell_after p q r s None (Some b) f g = rw (g b refl) (none_first p r (cond s (Some b) None))
same_cell_after p q r s None None f g = none_first p r (cond q None None) ∙ ap (λ (c : Cell). option_or (cond r None None) c) (both_none q s)

pub crosses_by : (crosses others : ℕ → ℕ → Bool) (old new : Cells)
    → AgreeAtCars crosses others old
    → ChangesLanes crosses old new → ChangesLanes others old new
crosses_by crosses others old new same m = record {
  same_limit = m.same_limit;
  same_lanes = m.same_lanes;
  each_lane = λ l h. let lane = m.each_lane l h in record {
    same_length = lane.same_length;
    each_cell = λ x k. lane.each_cell x k ∙ same_cell_after (crosses l x) (crosses (other_lane l) x) (others l x) (others (other_lane l) x) (cell old l x) (cell old (other_lane l) x)
        (λ u here. same (car_in l x u.0 u.1) here) (λ u here. same (car_in (other_lane l) x u.0 u.1) here);
  };
}
