-- A road whose cars all have the same speed; and, if there is room to drive at the limit, two flows at one
-- density.
use Rattle.std.proofs.Common.{◌≡◌, ℕ, zero, suc, ◌+◌, ◌-◌, ◌*◌, ◌/◌, ◌<◌, ◌≤◌, Some, None, List, [], ◌∷◌}
use Rattle.std.proofs.Common.{Result, Ok, Err, length, map, get_or, refl, sym, ◌∙◌, ap, subst, arith}
use Rattle.std.proofs.{Common.{mul_comm, le-div_iff_mul-le, sum_by}, lemmas.List.length-map}
use Rattle.std.proofs.lemmas.{List.Sums.sum_by-cons, Option.some_pair_parts}
use Rattle.trlab_bounds.specs.declared.programs.TheConstants.{CERTAIN}
use Rattle.trlab_road.specs.declared.{car.Car.Car, fault.RoadFault.RoadFault}
use Rattle.trlab_road.specs.Cells.{Cell, Cells, IsAt, Lane, at, cars, cell, lane_car_count, lane_of}
use Rattle.trlab_road.specs.{Cells.{HasValidShape, IsLegal}, Gaps.{ahead, gap}, Laws.EvenCarsMean}
use Rattle.trlab_road.{specs.Spreading.{CanSpread, IsEvenlySpaced}, proofs.EvenExists.something}
use Rattle.trlab_road.proofs.{EvenRoads.{even_count, even_legal, no_fault}, MotionLaws.on_lane}
use Rattle.trlab_road.proofs.{Ring.{car_in, clear_within_gap}, StandingOrder.lane_car_count-some}
use Rattle.trlab_traffic.specs.{Terms.lane_cells, FlowAndJams.{IsInFreeFlow, IsRing, IsStopped}}
use Rattle.trlab_traffic.{specs.FlowAndJams.TwoFlowsAtOneDensity, proofs.Lanes.{one_sum, clear_is_gap}}
use Rattle.trlab_traffic.proofs.{Lanes.gap_below, RoomAhead.cars-none, FreeFlow.slow_starts_keep_free_flow}
use Rattle.trlab_traffic.proofs.{FreeFlow.slow_starts_keep_jams, EvenCars.{gap_low, who}}

-- a cell, with its car at a speed
abbrev sped : ℕ → Cell → Cell
sped v None = None
sped v (Some car) = Some (car.0, v)

abbrev sped_lane : ℕ → Lane → Lane
sped_lane v lane = map (sped v) lane

abbrev sped_road : ℕ → Cells → Cells
sped_road v road = record { limit = road.limit; lanes = map (sped_lane v) road.lanes }

at_sped : (v : ℕ) (lane : Lane) (x : ℕ) → at (sped_lane v lane) x ≡ sped v (at lane x)
at_sped v [] x = refl
at_sped v (c ∷ cells) zero = refl
at_sped v (c ∷ cells) (suc x) = at_sped v cells x

lane_sped : (v : ℕ) (lanes : List Lane) (l : ℕ) → get_or (map (sped_lane v) lanes) l [] ≡ sped_lane v (get_or lanes l [])
lane_sped v [] l = refl
lane_sped v (lane ∷ lanes) zero = refl
lane_sped v (lane ∷ lanes) (suc l) = lane_sped v lanes l

cell_sped : (v : ℕ) (road : Cells) (l x : ℕ) → cell (sped_road v road) l x ≡ sped v (cell road l x)
cell_sped v road l x = ap (λ (lane : Lane). at lane x) (lane_sped v road.lanes l) ∙ at_sped v (lane_of road l) x

size_sped : (v : ℕ) (road : Cells) (l : ℕ) → length (lane_of (sped_road v road) l) ≡ length (lane_of road l)
size_sped v road l = ap (λ (lane : Lane). length lane) (lane_sped v road.lanes l) ∙ length-map (lane_of road l) (sped v)

cars_sped : (v : ℕ) (lane : Lane) → lane_car_count (sped_lane v lane) ≡ lane_car_count lane
cars_sped v [] = refl
cars_sped v (None ∷ cells) =
    let rest = cars_sped v cells in
    let a = cars-none cells in
    let b = cars-none (sped_lane v cells) in
    omega (arith, rest, a, b)
cars_sped v (Some car ∷ cells) =
    let rest = cars_sped v cells in
    let a = lane_car_count-some car cells in
    let b = lane_car_count-some (car.0, v) (sped_lane v cells) in
    omega (arith, rest, a, b)

all_sped : (v : ℕ) (g : Lane → ℕ) → ((lane : Lane) → g (sped_lane v lane) ≡ g lane) → (lanes : List Lane) → sum_by g (map (sped_lane v) lanes) ≡ sum_by g lanes
all_sped v g same [] = refl
all_sped v g same (lane ∷ lanes) =
    let rest = all_sped v g same lanes in
    let here = same lane in
    let a = sum_by-cons g (sped_lane v lane) (map (sped_lane v) lanes) in
    let b = sum_by-cons g lane lanes in
    omega (arith, rest, here, a, b)

-- a car of such a road was there before, at some speed
record Unsped (v : ℕ) (c : Cell) (number speed : ℕ) : Type 0 where
  before : ℕ
  was : c ≡ Some (number, before)
  now : speed ≡ v

unsped : (v : ℕ) (c : Cell) (number speed : ℕ) → sped v c ≡ Some (number, speed) → Unsped v c number speed
unsped v None number speed is = absurd cc
unsped v (Some car) number speed is =
    let parts = some_pair_parts car.0 number v speed is in
    record { before = car.1; was = ap (λ (k : ℕ). Some (k, car.1)) parts.0; now = sym parts.1 }

module _ (v : ℕ) (road : Cells) (legal : IsLegal road) where
  was_there : (car : Car) → IsAt (sped_road v road) car → Unsped v (cell road car.lane car.place) car.number car.speed
  was_there car here = unsped v (cell road car.lane car.place) car.number car.speed (sym (cell_sped v road car.lane car.place) ∙ here)

  sped_cars : cars (sped_road v road) ≡ cars road
  sped_cars = all_sped v lane_car_count (cars_sped v) road.lanes

  sped_shape : HasValidShape (sped_road v road)
  sped_shape =
      let shape = legal.shape in
      let count = length-map road.lanes (sped_lane v) in
      let size = size_sped v road 0 in
      let few = shape.lanes.few_lanes in
      let some = shape.lanes.some_lane in
      let cells = shape.cells.some_cell in
      let most = shape.cells.few_cells in
      record {
        lanes = record { some_lane = omega (arith, some, count); few_lanes = omega (arith, few, count) };
        cells = record { some_cell = omega (arith, cells, size); few_cells = omega (arith, most, size) };
        equal = λ l low. size_sped v road l ∙ shape.equal l (omega (arith, low, count)) ∙ sym (size_sped v road 0);
        limit = shape.limit;
      }

  sped_legal : v ≤ road.limit → IsLegal (sped_road v road)
  sped_legal slow =
      record {
        shape = sped_shape;
        within_limit = λ car here. let now = (was_there car here).now in omega (arith, now, slow);
        numbered = λ car here.
            let was = was_there car here in
            let low = legal.numbered (car_in car.lane car.place car.number was.before) was.was in
            let count = sped_cars in
            omega (arith, low, count);
        once = λ car other here there same.
            let was = was_there car here in
            let also = was_there other there in
            legal.once (car_in car.lane car.place car.number was.before) (car_in other.lane other.place other.number also.before) was.was also.was same;
      }

  -- and it has the gaps that it had
  sped_room : (g : ℕ) → ((car : Car) → IsAt road car → g ≤ gap (lane_of road car.lane) car.place) → (car : Car) → IsAt (sped_road v road) car → g ≤ gap (lane_of (sped_road v road) car.lane) car.place
  sped_room g room car here =
      let was = was_there car here in
      let l = car.lane in
      let x = car.place in
      let lane = lane_of road l in
      let size = size_sped v road l in
      let far = room (car_in l x car.number was.before) was.was in
      let short = gap_below lane x x (car.number, was.before) was.was in
      let clear = clear_within_gap lane x g far in
      clear_is_gap (lane_of (sped_road v road) l) x g (omega (arith, far, short, size)) (record {
        clear = λ j some most.
            ap (λ k. cell (sped_road v road) l (ahead k x j)) size
            ∙ cell_sped v road l (ahead (length lane) x j)
            ∙ ap (sped v) (clear.clear j some most);
      })

  sped_speed : (car : Car) → IsAt (sped_road v road) car → car.speed ≡ v
  sped_speed car here = (was_there car here).now

-- a road of evenly spread cars
even_road : (cells limit n : ℕ) → CanSpread 1 cells limit n → (road : Cells) × IsEvenlySpaced 1 cells limit n road
even_road cells limit n fits =
    let said = something 1 cells limit n in
    of_said said.0 said.1
  where
    of_said : (said : Result Cells RoadFault) → EvenCarsMean 1 cells limit n said → (road : Cells) × IsEvenlySpaced 1 cells limit n road
    of_said (Ok road) says = (road, says.1)
    of_said (Err fault) says = absurd (says.1 (no_fault 1 cells limit n fault fits says.0))

even_ring : (cells limit n : ℕ) (road : Cells) → CanSpread 1 cells limit n → IsEvenlySpaced 1 cells limit n road → IsRing cells limit n road
even_ring cells limit n road fits even = record {
  legal = even_legal 1 cells limit n road fits even;
  one_lane = even.same_lanes;
  same_cells = one_sum lane_cells road.lanes even.same_lanes ∙ (even.each_lane 0 (omega arith)).same_length;
  same_limit = even.same_limit;
  same_cars = even_count 1 cells limit n road fits even;
}

sped_ring : (v cells limit n : ℕ) (road : Cells) → v ≤ road.limit → IsRing cells limit n road → IsRing cells limit n (sped_road v road)
sped_ring v cells limit n road slow ring = record {
  legal = sped_legal v road ring.legal slow;
  one_lane = length-map road.lanes (sped_lane v) ∙ ring.one_lane;
  same_cells = all_sped v lane_cells (λ lane. length-map lane (sped v)) road.lanes ∙ ring.same_cells;
  same_limit = ring.same_limit;
  same_cars = sped_cars v road ring.legal ∙ ring.same_cars;
}

module _ (cells limit n : ℕ) (road : Cells) (even : IsEvenlySpaced 1 cells limit n road) where
  on_first : (car : Car) → IsAt road car → IsAt road (car_in 0 car.place car.number car.speed) × (car.lane ≡ 0)
  on_first car here =
      let on = on_lane road car.lane car.place (car.number, car.speed) here in
      let one = even.same_lanes in
      let first : car.lane ≡ 0 = omega (arith, on, one) in
      (subst (λ l. cell road l car.place ≡ Some (car.number, car.speed)) first here, first)

  stopped : IsStopped road
  stopped = record {
    stopped = λ car here. (who cells n (lane_of road 0) (even.each_lane 0 (omega arith)) car.place car.number car.speed (on_first car here).0).stopped;
  }

  room : n * (limit + 1) ≤ cells → (car : Car) → IsAt road car → limit ≤ gap (lane_of road car.lane) car.place
  room few car here =
      let lane = lane_of road 0 in
      let first = on_first car here in
      let on = even.each_lane 0 (omega arith) in
      let low = (who cells n lane on car.place car.number car.speed first.0).low in
      let a = gap_low cells n lane on car.place car.number car.speed first.0 in
      let b : limit + 1 ≤ cells / n = (le-div_iff_mul-le {k = n} {x = limit + 1} {y = cells} (let h : 0 < n = omega (arith, low) in h)).1 (let e = mul_comm n (limit + 1) in omega (arith, few, e)) in
      let far : limit ≤ gap lane car.place = omega (arith, a, b) in
      subst (λ l. limit ≤ gap (lane_of road l) car.place) (sym first.1) far

pub two_flows_at_one_density : TwoFlowsAtOneDensity
two_flows_at_one_density cells limit n rule is fits few =
    let made = even_road cells limit n fits in
    let road = made.0 in
    let even = made.1 in
    let ring = even_ring cells limit n road fits even in
    let free_ring = sped_ring road.limit cells limit n road (omega arith) ring in
    let free : IsInFreeFlow (sped_road road.limit road) = record {
      at_limit = λ car here. sped_speed road.limit road ring.legal car here;
      room = λ car here. sped_room road.limit road ring.legal road.limit (λ other there. let far = room cells limit n road even few other there in let same = even.same_limit in omega (arith, far, same)) car here;
    } in
    record {
      free = sped_road road.limit road;
      jam = road;
      free_ring = free_ring;
      jam_ring = ring;
      flows = λ seed step after sum start comes.
          let way = slow_starts_keep_free_flow CERTAIN rule seed step after sum is (subst IsLegal (sym start) free_ring.legal) (subst IsInFreeFlow (sym start) free) comes in
          way.1 ∙ ap (λ m. (step - seed.warm) * m) (ap (λ (r : Cells). r.limit * cars r) start ∙ ap (λ k. k * cars (sped_road road.limit road)) ring.same_limit ∙ ap (λ k. limit * k) free_ring.same_cars);
      stays = λ seed step after sum start comes.
          (slow_starts_keep_jams 0 rule seed step after sum is (subst IsLegal (sym start) ring.legal) (subst IsStopped (sym start) (stopped cells limit n road even)) comes).1;
    }
