-- Rotated lanes: their gaps, their motion and their lane change, and the sums over their cars.
use Rattle.std.proofs.Common.{◌≡◌, ℕ, zero, suc, ◌+◌, ◌-◌, ◌%◌, ◌<◌, ◌&&◌, Bool, cond, Some, None, List, []}
use Rattle.std.proofs.Common.{◌∷◌, length, get_or, map, refl, sym, ◌∙◌, ap, subst, arith, is_none, sum_by}
use Rattle.std.proofs.{Common.ext_get_or, lemmas.List.{length-map, FromFn.get_or-map-range_with_len}}
use Rattle.std.proofs.lemmas.List.{FromFn.length-map-range_with_len, Sums.sum_by-append}
use Rattle.trlab_road.specs.Cells.{Cell, Cells, Lane, at, lane_of, standing_from, standing_from_lane}
use Rattle.trlab_road.specs.Gaps.{ahead, behind, clear_cells, gap, largest, headspeed, is_clear, side}
use Rattle.trlab_road.specs.{Gaps.{sideback, sidegap, speed_in}, LaneChange.{LaneCrosses, cell_after_change}}
use Rattle.trlab_road.specs.{Motion.{ComesFrom, LaneMoves}, declared.car.Car.Car}
use Rattle.trlab_road.proofs.Ring.{inside, car_in}
use Rattle.trlab_traffic.specs.Terms.{rotate_road, rotate_lane}
use Rattle.trlab_traffic.proofs.Lanes.{ahead_below, ahead_more, ahead_none, ahead_once, ahead_swap}
use Rattle.trlab_traffic.proofs.Lanes.{back_ahead, sum_of_cells, total, total_same, total_turned, weight}

-- tests that agree have the same largest number
greatest_same : (test other : ℕ → Bool) (n : ℕ) → ((k : ℕ) → test k ≡ other k) → largest test n ≡ largest other n
greatest_same test other zero same = refl
greatest_same test other (suc n) same =
    ap (λ (b : Bool). cond b (suc n) (largest test n)) (same (suc n)) ∙ ap (λ k. cond (other (suc n)) (suc n) k) (greatest_same test other n same)

-- distances over equal cells are equally clear
clear_same : (lane other : Lane) (way there : ℕ → ℕ) (g : ℕ) → ((j : ℕ) → at lane (way j) ≡ at other (there j)) → is_clear lane way g ≡ is_clear other there g
clear_same lane other way there zero same = refl
clear_same lane other way there (suc g) same =
    ap (λ (b : Bool). b && is_none (at lane (way (suc g)))) (clear_same lane other way there g same)
    ∙ ap (λ (c : Cell). is_clear other there g && is_none c) (same (suc g))

cells_same : (lane other : Lane) (way there : ℕ → ℕ) → length lane ≡ length other → ((j : ℕ) → at lane (way j) ≡ at other (there j)) → clear_cells lane way ≡ clear_cells other there
cells_same lane other way there size same =
    greatest_same (is_clear lane way) (is_clear other there) (length lane - 1) (λ g. clear_same lane other way there g same)
    ∙ ap (λ n. largest (is_clear other there) (n - 1)) size

-- the lane of a road that is rotated
pub lanes_turned : (r : ℕ) (lanes : List Lane) (l : ℕ) → get_or (map (rotate_lane r) lanes) l [] ≡ rotate_lane r (get_or lanes l [])
lanes_turned r [] l = refl
lanes_turned r (lane ∷ lanes) zero = refl
lanes_turned r (lane ∷ lanes) (suc l) = lanes_turned r lanes l

pub lane_turned : (r : ℕ) (road : Cells) (l : ℕ) → lane_of (rotate_road r road) l ≡ rotate_lane r (lane_of road l)
lane_turned r road l = lanes_turned r road.lanes l

pub length-turned : (r : ℕ) (lane : Lane) → length (rotate_lane r lane) ≡ length lane
length-turned r lane = length-map-range_with_len (λ x. at lane (ahead (length lane) x r)) 0 (length lane)

pub turned_at : (r : ℕ) (lane : Lane) (x : ℕ) → x < length lane → at (rotate_lane r lane) x ≡ at lane (ahead (length lane) x r)
turned_at r lane x low = get_or-map-range_with_len (λ y. at lane (ahead (length lane) y r)) 0 (length lane) x x None low (let e : 0 + x ≡ x = omega arith in e)

-- the cell that a car of the rotated lane has on the original lane
pub turned_car : (r : ℕ) (lane : Lane) (x : ℕ) (car : ℕ × ℕ) → at (rotate_lane r lane) x ≡ Some car → x < length lane
turned_car r lane x car here = subst (λ n. x < n) (length-turned r lane) (inside (rotate_lane r lane) x car here)

-- a lane that is rotated by no cell, and one that is rotated twice
lane_turned_none : (lane : Lane) → rotate_lane 0 lane ≡ lane
lane_turned_none lane =
    ext_get_or None (rotate_lane 0 lane) lane (length-turned 0 lane) (λ x below.
    let low : x < length lane = subst (λ n. x < n) (length-turned 0 lane) below in
    turned_at 0 lane x low ∙ ap (at lane) (ahead_none (length lane) x low))

lane_turned_more : (a b : ℕ) (lane : Lane) → rotate_lane a (rotate_lane b lane) ≡ rotate_lane (a + b) lane
lane_turned_more a b lane =
    let n = length lane in
    let size = length-turned a (rotate_lane b lane) in
    ext_get_or None (rotate_lane a (rotate_lane b lane)) (rotate_lane (a + b) lane) (size ∙ length-turned b lane ∙ sym (length-turned (a + b) lane)) (λ x below.
    let on : x < length (rotate_lane b lane) = subst (λ k. x < k) size below in
    let low : x < n = subst (λ k. x < k) (length-turned b lane) on in
    turned_at a (rotate_lane b lane) x on
    ∙ ap (λ k. at (rotate_lane b lane) (ahead k x a)) (length-turned b lane)
    ∙ turned_at b lane (ahead n x a) (ahead_below n x a (omega (arith, low)))
    ∙ ap (at lane) (ahead_more n x a b)
    ∙ sym (turned_at (a + b) lane x low))

abbrev made : ℕ → List Lane → Cells
made limit lanes = record { limit = limit; lanes = lanes }

-- roads with the same limit and the same lanes are equal
pub same_road : (road other : Cells) → road.limit ≡ other.limit → length road.lanes ≡ length other.lanes
    → ((l : ℕ) → l < length road.lanes → lane_of road l ≡ lane_of other l) → road ≡ other
same_road road other limit count same =
    ap (λ (v : ℕ). made v road.lanes) limit ∙ ap (made other.limit) (ext_get_or [] road.lanes other.lanes count same)

pub turned_none : (road : Cells) → rotate_road 0 road ≡ road
turned_none road =
    same_road (rotate_road 0 road) road refl (length-map road.lanes (rotate_lane 0)) (λ l on. lane_turned 0 road l ∙ lane_turned_none (lane_of road l))

pub turned_more : (a b : ℕ) (road : Cells) → rotate_road a (rotate_road b road) ≡ rotate_road (a + b) road
turned_more a b road =
    same_road (rotate_road a (rotate_road b road)) (rotate_road (a + b) road) refl
    (length-map (map (rotate_lane b) road.lanes) (rotate_lane a) ∙ length-map road.lanes (rotate_lane b) ∙ sym (length-map road.lanes (rotate_lane (a + b))))
    (λ l on. lane_turned a (rotate_road b road) l ∙ ap (rotate_lane a) (lane_turned b road l) ∙ lane_turned_more a b (lane_of road l) ∙ sym (lane_turned (a + b) road l))

-- the cells ahead
pub turned_ahead : (r : ℕ) (lane : Lane) (x j : ℕ) → 0 < length lane → at (rotate_lane r lane) (ahead (length lane) x j) ≡ at lane (ahead (length lane) (ahead (length lane) x r) j)
turned_ahead r lane x j some =
    turned_at r lane (ahead (length lane) x j) (ahead_below (length lane) x j some) ∙ ap (at lane) (ahead_swap (length lane) x j r)

module _ (r : ℕ) (lane : Lane) (x : ℕ) (some : 0 < length lane) where
  abbrev y : ℕ
  y = ahead (length lane) x r

  way_ahead : (j : ℕ) → at (rotate_lane r lane) (ahead (length (rotate_lane r lane)) x j) ≡ at lane (ahead (length lane) y j)
  way_ahead j = ap (λ m. at (rotate_lane r lane) (ahead m x j)) (length-turned r lane) ∙ turned_ahead r lane x j some

  way_behind : (j : ℕ) → at (rotate_lane r lane) (behind (length (rotate_lane r lane)) x j) ≡ at lane (behind (length lane) y j)
  way_behind j = ap (λ m. at (rotate_lane r lane) (behind m x j)) (length-turned r lane) ∙ turned_ahead r lane x (length lane - j) some

  clear_ahead : clear_cells (rotate_lane r lane) (ahead (length (rotate_lane r lane)) x) ≡ clear_cells lane (ahead (length lane) y)
  clear_ahead = cells_same (rotate_lane r lane) lane (ahead (length (rotate_lane r lane)) x) (ahead (length lane) y) (length-turned r lane) way_ahead

  clear_behind : clear_cells (rotate_lane r lane) (behind (length (rotate_lane r lane)) x) ≡ clear_cells lane (behind (length lane) y)
  clear_behind = cells_same (rotate_lane r lane) lane (behind (length (rotate_lane r lane)) x) (behind (length lane) y) (length-turned r lane) way_behind

  -- the gap, and the speed of the next car
  pub gap_turned : gap (rotate_lane r lane) x ≡ gap lane y
  gap_turned = clear_ahead

  pub headspeed_turned : headspeed (rotate_lane r lane) x ≡ headspeed lane y
  headspeed_turned =
      ap (λ g. speed_in (at (rotate_lane r lane) (ahead (length (rotate_lane r lane)) x (g + 1)))) gap_turned
      ∙ ap speed_in (way_ahead (gap lane y + 1))

  -- the view of a car to the side
  module _ (low : x < length lane) where
    pub side_turned : side (rotate_lane r lane) x ≡ side lane y
    side_turned = ap is_none (turned_at r lane x low)

    pub sidegap_turned : sidegap (rotate_lane r lane) x ≡ sidegap lane y
    sidegap_turned =
        ap (λ (b : Bool). cond b (clear_cells (rotate_lane r lane) (ahead (length (rotate_lane r lane)) x)) 0) side_turned
        ∙ ap (λ g. cond (side lane y) g 0) clear_ahead

    pub sideback_turned : sideback (rotate_lane r lane) x ≡ sideback lane y
    sideback_turned =
        ap (λ (b : Bool). cond b (clear_cells (rotate_lane r lane) (behind (length (rotate_lane r lane)) x)) 0) side_turned
        ∙ ap (λ g. cond (side lane y) g 0) clear_behind

-- the motion of a lane that is rotated
module _ (r : ℕ) (answer : ℕ → ℕ) (old new : Lane) (m : LaneMoves answer old new) where
  arrives_turned : (x number speed : ℕ) → at (rotate_lane r old) x ≡ Some (number, speed)
      → at (rotate_lane r new) (ahead (length (rotate_lane r old)) x (answer (ahead (length old) x r))) ≡ Some (number, answer (ahead (length old) x r))
  arrives_turned x number speed here =
      let low = turned_car r old x (number, speed) here in
      let y = ahead (length old) x r in
      let a = answer y in
      let size = m.same_length in
      let arrived = m.arrives y number speed (sym (turned_at r old x low) ∙ here) in
      ap (λ k. at (rotate_lane r new) (ahead k x a)) (length-turned r old ∙ sym size)
      ∙ turned_ahead r new x a (omega (arith, low, size))
      ∙ ap (λ k. at new (ahead k (ahead k x r) a)) size
      ∙ arrived

  came_turned : (y number speed : ℕ) → at (rotate_lane r new) y ≡ Some (number, speed)
      → (x : ℕ) × ((before : ℕ) × ComesFrom (λ z. answer (ahead (length old) z r)) (rotate_lane r old) y number speed x before)
  came_turned y number speed there =
      let n = length old in
      let size = m.same_length in
      let low : y < n = (let k = turned_car r new y (number, speed) there in omega (arith, k, size)) in
      let stood = ap (λ k. at new (ahead k y r)) (sym size) ∙ sym (turned_at r new y (omega (arith, low, size))) ∙ there in
      let came = m.nothing_else (ahead n y r) number speed stood in
      let from = came.0 in
      let was = came.1.1.was in
      let from_low = inside old from (number, came.1.0) was in
      let x = ahead n from (n - r % n) in
      let x_low : x < n = ahead_below n from (n - r % n) (omega (arith, low)) in
      let forth : ahead n x r ≡ from = back_ahead n from r from_low in
      let a = answer (ahead n x r) in
      let same : ahead n y r ≡ ahead n (ahead n x a) r = came.1.1.reaches ∙ ap (λ k. ahead n k (answer k)) (sym forth) ∙ ahead_swap n x r a in
      let reach : y ≡ ahead n x a = ahead_once n y (ahead n x a) r low (ahead_below n x a (omega (arith, low))) same in (
        x,
        (
          came.1.0,
          record {
            was = turned_at r old x x_low ∙ ap (at old) forth ∙ was;
            reaches = reach ∙ ap (λ k. ahead k x a) (sym (length-turned r old));
            at_speed = came.1.1.at_speed ∙ ap answer (sym forth);
          },
        ),
      )

  pub lane_moves_turned : LaneMoves (λ x. answer (ahead (length old) x r)) (rotate_lane r old) (rotate_lane r new)
  lane_moves_turned = record {
    same_length = length-turned r new ∙ m.same_length ∙ sym (length-turned r old);
    arrives = arrives_turned;
    nothing_else = came_turned;
  }

same_change : (p q s t : Bool) (a b c d : Cell) → p ≡ s → q ≡ t → a ≡ c → b ≡ d → cell_after_change p q a b ≡ cell_after_change s t c d
same_change p q s t a b c d e f g h = rw (e, f, g, h) refl

-- the lane change of a lane that is rotated
pub lane_crosses_turned : (r : ℕ) (p q : ℕ → Bool) (own beside new : Lane) → length beside ≡ length own → LaneCrosses p q own beside new
    → LaneCrosses (λ x. p (ahead (length own) x r)) (λ x. q (ahead (length beside) x r)) (rotate_lane r own) (rotate_lane r beside) (rotate_lane r new)
lane_crosses_turned r p q own beside new equal m = record {
  same_length = length-turned r new ∙ m.same_length ∙ sym (length-turned r own);
  each_cell = λ x below.
      let size = m.same_length in
      let low : x < length own = subst (λ n. x < n) (length-turned r own) below in
      let y = ahead (length own) x r in
      let to : ahead (length beside) x r ≡ y = ap (λ k. ahead k x r) equal in
      turned_at r new x (omega (arith, low, size))
      ∙ ap (λ k. at new (ahead k x r)) size
      ∙ m.each_cell y (ahead_below (length own) x r (omega (arith, low)))
      ∙ same_change (p y) (q y) (p y) (q (ahead (length beside) x r)) (at own y) (at beside y) (at (rotate_lane r own) x) (at (rotate_lane r beside) x)
      refl (ap q (sym to)) (sym (turned_at r own x low)) (ap (at beside) (sym to) ∙ sym (turned_at r beside x (omega (arith, low, equal))));
}

-- Sums over the cars of a road that is rotated.

-- a weight of a cell by the place that it had
weight_turned : (g f : Car → ℕ) (l x y : ℕ) (c : Cell) → ((number speed : ℕ) → c ≡ Some (number, speed) → g (car_in l x number speed) ≡ f (car_in l y number speed)) → weight g l x c ≡ weight f l y c
weight_turned g f l x y None same = refl
weight_turned g f l x y (Some car) same = same car.0 car.1 refl

-- a sum over the cars of a lane that is rotated
pub lane_sum_turned : (g f : Car → ℕ) (l r : ℕ) (lane : Lane)
    → ((x number speed : ℕ) → g (car_in l x number speed) ≡ f (car_in l (ahead (length lane) x r) number speed))
    → sum_by g (standing_from l 0 (rotate_lane r lane)) ≡ sum_by f (standing_from l 0 lane)
lane_sum_turned g f l r lane same =
    let n = length lane in
    let there : ℕ → ℕ = λ x. weight f l (0 + x) (at lane x) in
    sum_of_cells g l 0 (rotate_lane r lane)
    ∙ ap (total (λ x. weight g l (0 + x) (at (rotate_lane r lane) x))) (length-turned r lane)
    ∙ total_same (λ x. weight g l (0 + x) (at (rotate_lane r lane) x)) (λ x. there (ahead n x r)) n
    (λ x low.
    let a : 0 + x ≡ x = omega arith in
    let b : ahead n x r ≡ 0 + ahead n x r = omega arith in
    ap (λ (c : Cell). weight g l (0 + x) c) (turned_at r lane x low)
    ∙ ap (λ k. weight g l k (at lane (ahead n x r))) a
    ∙ weight_turned g f l x (ahead n x r) (at lane (ahead n x r)) (λ number speed here. same x number speed)
    ∙ ap (λ k. weight f l k (at lane (ahead n x r))) b)
    ∙ total_turned there n r
    ∙ sym (sum_of_cells f l 0 lane)

-- and over the cars of all lanes
pub sum_turned : (g f : Car → ℕ) (base r : ℕ) (lanes : List Lane)
    → ((l x number speed : ℕ) → l < length lanes → g (car_in (base + l) x number speed) ≡ f (car_in (base + l) (ahead (length (get_or lanes l [])) x r) number speed))
    → sum_by g (standing_from_lane base (map (rotate_lane r) lanes)) ≡ sum_by f (standing_from_lane base lanes)
sum_turned g f base r [] same = refl
sum_turned g f base r (lane ∷ lanes) same =
    let zeroth : base + 0 ≡ base = omega arith in
    let first = lane_sum_turned g f base r lane
    (λ x number speed. subst (λ k. g (car_in k x number speed) ≡ f (car_in k (ahead (length lane) x r) number speed)) zeroth (same 0 x number speed (omega arith))) in
    let rest = sum_turned g f (suc base) r lanes
    (λ l x number speed low. let e : base + suc l ≡ suc base + l = omega arith in
    subst (λ k. g (car_in k x number speed) ≡ f (car_in k (ahead (length (get_or lanes l [])) x r) number speed)) e (same (suc l) x number speed (omega arith))) in
    let a = sum_by-append g (standing_from base 0 (rotate_lane r lane)) (standing_from_lane (suc base) (map (rotate_lane r) lanes)) in
    let b = sum_by-append f (standing_from base 0 lane) (standing_from_lane (suc base) lanes) in
    omega (arith, first, rest, a, b)
