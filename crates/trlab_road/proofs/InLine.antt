-- Lines of cars, as parts of the list of their lane.
use Rattle.std.proofs.Common.{◌≡◌, ◌∙◌, ℕ, ◌+◌, ◌-◌, ◌<◌, List, [], Vec, Global, length, get_or, drop, sym}
use Rattle.std.proofs.Common.{ap, subst, arith, get_or-drop, length-drop}
use Rattle.trlab_road.specs.Stored.{LaneCar, IsFollowed, IsLineFrom, AreSorted, IsFoundAt, car_on, lanes_from}
use Rattle.trlab_road.specs.{Stored.{list_at, no_car, place_of}, Cells.{Cells, Lane, IsNthCar}}
use Rattle.trlab_road.{specs.Gaps.{gap, headspeed}, proofs.{Headspeeds.next_headspeed, ListGaps.gap_next}}
use Rattle.trlab_road.proofs.ListMotion.{parted_kth}
use Rattle.trlab_road.proofs.ListRoads.{counted_before, found_by, found_cell, found_in_order, found_standing}
use Rattle.trlab_road.proofs.{ListRoads.{lane_from, list_counted}, Lists.{rises_high, rises_order}}

module _ (n : ℕ) (lists : List (Vec LaneCar Global)) (limit k l i : ℕ) (s : AreSorted n lists) (f : IsFoundAt lists k l i) where
  abbrev cars : List LaneCar
  cars = list_at lists l

  abbrev road : Cells
  road = record { limit = limit; lanes = lanes_from n lists }

  -- the car that is j places behind in the list
  found_later_on : (j : ℕ) → i + j < length cars → IsFoundAt lists (k + j) l (i + j)
  found_later_on j low = let order = f.order in record { on_lane = f.on_lane; low = low; order = omega (arith, order) }

  followed : (j : ℕ) → i + j + 1 < length cars → IsFollowed road (k + j) (get_or cars (i + j) no_car) (get_or cars (i + j + 1) no_car)
  followed j more =
      let low : i + j < length cars = omega (arith, more) in
      let r = s.rises l f.on_lane in
      let there = found_later_on j low in
      let own = place_of cars (i + j) in
      let lane = sym (lane_from n lists l f.on_lane) in
      let gap_is : place_of cars (i + j + 1) - own - 1 ≡ gap (get_or (lanes_from n lists) l []) own
      = sym (gap_next n cars r own (rises_high 0 n cars (i + j) r low) (i + j + 1) (parted_kth n cars (i + j) r low) more) ∙ ap (λ (lane : Lane). gap lane own) lane in
      let speed_is : (get_or cars (i + j + 1) no_car).speed ≡ headspeed (get_or (lanes_from n lists) l []) own
      = next_headspeed n cars r (i + j) low more ∙ ap (λ (lane : Lane). headspeed lane own) lane in
      record {
        lane = l;
        standing = found_standing n lists limit (k + j) l (i + j) s there;
        here = found_cell n lists limit (k + j) l (i + j) s there;
        past = rises_order 0 n cars (i + j) (i + j + 1) r (omega arith) more;
        ahead = found_by (λ l x. gap (get_or (lanes_from n lists) l []) x) n lists limit (k + j) l (i + j) s there _ gap_is;
        in_gaps = found_in_order (λ l x. gap (get_or (lanes_from n lists) l []) x) n lists limit (k + j) l (i + j) s there _ gap_is 0;
        head = found_by (λ l x. headspeed (get_or (lanes_from n lists) l []) x) n lists limit (k + j) l (i + j) s there _ speed_is;
      }

  -- the cars of the list from an index on
  pub in_line : (line : List LaneCar) → line ≡ drop i cars → (j : ℕ) → j + 1 < length line → IsFollowed road (k + j) (get_or line j no_car) (get_or line (j + 1) no_car)
  in_line line is j more =
      let size : length line ≡ length cars - i = ap length is ∙ length-drop i cars in
      let here : get_or line j no_car ≡ get_or cars (i + j) no_car = ap (λ (xs : List LaneCar). get_or xs j no_car) is ∙ get_or-drop i cars j no_car in
      let next : get_or line (j + 1) no_car ≡ get_or cars (i + j + 1) no_car = ap (λ (xs : List LaneCar). get_or xs (j + 1) no_car) is ∙ get_or-drop i cars (j + 1) no_car ∙ ap (λ m. get_or cars m no_car) (omega arith) in
      subst (λ (next : LaneCar). IsFollowed road (k + j) (get_or line j no_car) next) (sym next)
      (subst (λ (car : LaneCar). IsFollowed road (k + j) car (get_or cars (i + j + 1) no_car)) (sym here) (followed j (omega (arith, size, more))))

  -- they are the line from the car at this index
  pub line_from : (line : List LaneCar) → line ≡ drop i cars → IsLineFrom road k line
  line_from line is =
      let size : length line ≡ length cars - i = ap length is ∙ length-drop i cars in
      let low = f.low in
      let order = f.order in
      let before = counted_before n lists l s in
      let whole = list_counted n lists l s f.on_lane in
      record {
        lane = l;
        some = omega (arith, size, low);
        standing = λ j inside.
            subst (λ (car : LaneCar). IsNthCar road (k + j) (car_on l car)) (sym (ap (λ (xs : List LaneCar). get_or xs j no_car) is ∙ get_or-drop i cars j no_car))
            (found_standing n lists limit (k + j) l (i + j) s (found_later_on j (omega (arith, size, inside))));
        whole = omega (arith, size, low, order, before, whole);
      }
