-- The speed of the next car ahead, on any lane and on lanes that sorted lists of cars make.
use Rattle.std.proofs.Common.{◌≡◌, ℕ, ◌+◌, ◌-◌, ◌%◌, ◌<◌, ◌≤◌, Some, None, List, length, get_or, refl, sym}
use Rattle.std.proofs.{Common.{◌∙◌, ap, inl, inr, arith, is_some, mod-eq_of_lt}, Math.Nat.mod-eq-sub-mod}
use Rattle.trlab_road.specs.{Stored.{LaneCar, cells_of, no_car, place_of, IsSortedFrom}, Cells.{Cell, Lane}}
use Rattle.trlab_road.specs.{Cells.{Cells, at, cell, lane_of, IsLegal}, Gaps.{ahead, gap, headspeed}}
use Rattle.trlab_road.specs.{Gaps.{next_place, speed_in}, Laws.HeadspeedIsSpeedOfNextCar}
use Rattle.trlab_road.{specs.Laws.HeadspeedOfLoneCar, proofs.ListGaps.{clear_from, gap_next, gap_round}}
use Rattle.trlab_road.proofs.{ListMotion.parted_kth, Lists.{at_kth, length_cells, rises_high, rises_order}}
use Rattle.trlab_road.proofs.Ring.{car_in, ends_before, inside, ring_cases}

-- the speed of the car after the gap
headspeed_there : (lane : Lane) (x y number speed : ℕ) → next_place lane x ≡ y → at lane y ≡ Some (number, speed) → headspeed lane x ≡ speed
headspeed_there lane x y number speed reach there = ap (λ k. speed_in (at lane k)) reach ∙ ap speed_in there

pub of_next_car : HeadspeedIsSpeedOfNextCar
of_next_car lane x g number speed room clear there =
    let way : ℕ → ℕ = ahead (length lane) x in
    let run = ends_before lane way g room (clear_from lane way g clear.clear) (ap is_some there) in
    headspeed_there lane x (way (g + 1)) number speed (ap (λ k. way (k + 1)) run) there

pub of_lone_car : HeadspeedOfLoneCar
of_lone_car lane x number speed here alone =
    let n = length lane in
    let low = inside lane x (number, speed) here in
    let back : ahead n x (n - 1 + 1) ≡ x =
    (let e : x + (n - 1 + 1) ≡ x + n = omega (arith, low) in ap (λ k. k % n) e ∙ round n x low) in
    of_next_car lane x (n - 1) number speed (omega (arith, low))
    (record {
      clear = λ j some most. alone (ahead n x j) (λ same.
          elim (ring_cases n (x + j) (omega (arith, low, most))) [
            | inl w ↦ let e = w.1 in omega (arith, e, same, some)
            | inr w ↦ let e = w.1 in let f = w.0 in omega (arith, e, f, same, most, low)
          ]);
    })
    (ap (at lane) back ∙ here)
  where
    round : (n x : ℕ) → x < n → (x + n) % n ≡ x
    round n x low =
        let u : n ≤ x + n = omega arith in
        let e : x + n - n ≡ x = omega arith in
        mod-eq-sub-mod u ∙ ap (λ k. k % n) e ∙ mod-eq_of_lt low

-- on a legal road it is at most the limit
pub headspeed_within : (road : Cells) (l x : ℕ) → IsLegal road → headspeed (lane_of road l) x ≤ road.limit
headspeed_within road l x legal = of_cell (next_place (lane_of road l) x) (cell road l (next_place (lane_of road l) x)) refl
  where
    of_cell : (y : ℕ) (c : Cell) → cell road l y ≡ c → speed_in (cell road l y) ≤ road.limit
    of_cell y None is = rw is (omega arith)
    of_cell y (Some car) is = rw is (legal.within_limit (car_in l y car.0 car.1) is)

-- the next car of a list; from the end on it is the first car
module _ (n : ℕ) (cars : List LaneCar) (r : IsSortedFrom 0 n cars) (i : ℕ) (low : i < length cars) where
  abbrev own : ℕ
  own = place_of cars i

  -- the distance from the car to the car at another index
  way_to : (k : ℕ) → k < length cars → (own + (gap (cells_of n cars) own + 1)) % n ≡ place_of cars k → headspeed (cells_of n cars) own ≡ (get_or cars k no_car).speed
  way_to k on reach =
      headspeed_there (cells_of n cars) own (place_of cars k) (get_or cars k no_car).number (get_or cars k no_car).speed
      (ap (λ m. ahead m own (gap (cells_of n cars) own + 1)) (length_cells n cars) ∙ reach) (at_kth n cars k r on)

  pub next_headspeed : i + 1 < length cars → (get_or cars (i + 1) no_car).speed ≡ headspeed (cells_of n cars) own
  next_headspeed more =
      let here = rises_high 0 n cars i r low in
      let past = rises_order 0 n cars i (i + 1) r (omega arith) more in
      let high = rises_high 0 n cars (i + 1) r more in
      let g = gap_next n cars r own here (i + 1) (parted_kth n cars i r low) more in
      let e : own + (gap (cells_of n cars) own + 1) ≡ place_of cars (i + 1) = omega (arith, g, past) in
      sym (way_to (i + 1) more (ap (λ k. k % n) e ∙ mod-eq_of_lt high))

  pub first_headspeed : length cars ≤ i + 1 → (get_or cars 0 no_car).speed ≡ headspeed (cells_of n cars) own
  first_headspeed last =
      let some : 0 < length cars = omega arith in
      let here = rises_high 0 n cars i r low in
      let high = rises_high 0 n cars 0 r some in
      let g = gap_round n cars r own here (i + 1) (parted_kth n cars i r low) last some in
      let u : n ≤ own + (gap (cells_of n cars) own + 1) = omega (arith, g, here) in
      let e : own + (gap (cells_of n cars) own + 1) - n ≡ place_of cars 0 = omega (arith, g, here) in
      sym (way_to 0 some (mod-eq-sub-mod u ∙ ap (λ k. k % n) e ∙ mod-eq_of_lt high))
