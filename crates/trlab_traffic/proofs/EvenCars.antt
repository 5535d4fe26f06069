-- Evenly spaced cars on one lane: their gaps, of which no two differ by more than one cell, and their flow, which is
-- on the triangle of their road.
use Rattle.std.proofs.Common.{◌≡◌, ℕ, ◌+◌, ◌-◌, ◌*◌, ◌/◌, ◌%◌, ◌<◌, ◌≤◌, Some, None, length, refl, sym, ◌∙◌}
use Rattle.std.proofs.Common.{ap, subst, inl, inr, arith, add-mul, div-lt_iff_lt-mul, div-mul-le_self}
use Rattle.std.proofs.Common.{div-one, le-div_iff_mul-le, mul-le-mul_left, zero, suc, min, mul_comm}
use Rattle.std.proofs.Common.{div-le_self, mod-eq_of_lt}
use Rattle.std.proofs.Math.Nat.{add-mod_right, add-mul-div_left, lt-div-mul-add, mod-one}
use Rattle.std.proofs.lemmas.{Bool.{cases_eq, cases_lt}, Option.some_pair_parts}
use Rattle.trlab_road.specs.{Cells.{Cell, Lane, at, cars, lane_car_count, lane_of, standing_from}, Gaps.ahead}
use Rattle.trlab_road.specs.{Gaps.{gap, next_place}, Spreading.{IsEvenlySpacedLane, even_lane, even_place}}
use Rattle.trlab_road.{specs.{declared.car.Car.Car, Motion.{LaneFits, LaneMoves}}, proofs.Ring.blocked}
use Rattle.trlab_road.proofs.{Ring.{clear_within_gap, inside, ring_cases}, EvenRoads.{even_count, even_legal}}
use Rattle.trlab_road.proofs.StandingOrder.{length-standing_from}
use Rattle.trlab_traffic.specs.Terms.{max_distance, empty_cells, lane_empty_cells}
use Rattle.trlab_traffic.specs.Diagram.{EvenCarsFlowOnTriangle}
use Rattle.trlab_traffic.proofs.Lanes.{clear_is_gap, gap_below, one_sum, one_total, only_lane, sum_at_cars}
use Rattle.trlab_traffic.proofs.{RoomAhead.lane_taken_or_empty, Gaps.{gap_after, next_taken, gaps_total}}
use Rattle.trlab_traffic.proofs.{FreeFlow.sum_by-same, Regimes.{Regime, flows_by, nasch_moves_by, safe_by}}

-- the place of car i of n, on one lane
abbrev pub place : ℕ → ℕ → ℕ → ℕ
place cells n i = i * cells / n

place_is : (cells n i : ℕ) → even_place 1 cells n i ≡ place cells n i
place_is cells n i =
    let e : 1 * cells ≡ cells = omega arith in
    ap (λ c. i * c / n / 1) e ∙ div-one (i * cells / n)

lane_is : (cells n i : ℕ) → even_lane 1 cells n i ≡ 0
lane_is cells n i = mod-one (i * (1 * cells) / n)

-- two cars are no nearer than this
spread : (cells n u v : ℕ) → 0 < n → u < v → place cells n u + cells / n ≤ place cells n v
spread cells n u v some before =
    let p = place cells n u in
    let q = cells / n in
    let a : p * n ≤ u * cells = div-mul-le_self (u * cells) n in
    let b : q * n ≤ cells = div-mul-le_self cells n in
    let step : cells * (u + 1) ≤ cells * v = mul-le-mul_left cells (let k : u + 1 ≤ v = omega (arith, before) in k) in
    let fits : (p + q) * n ≤ v * cells = omega (arith, a, b, step) in
    (le-div_iff_mul-le {k = n} {x = p + q} {y = v * cells} some).1 fits

-- and the next car is no further away than this
near : (cells n u : ℕ) → 0 < n → place cells n (u + 1) < place cells n u + cells / n + 2
near cells n u some =
    let p = place cells n u in
    let q = cells / n in
    let a : u * cells < p * n + n = lt-div-mul-add {a = u * cells} {b = n} some in
    let b : cells < q * n + n = lt-div-mul-add {a = cells} {b = n} some in
    let fits : (u + 1) * cells < (p + q + 2) * n = omega (arith, a, b) in
    (div-lt_iff_lt-mul {k = n} {x = (u + 1) * cells} {y = p + q + 2} some).1 fits

-- a lap further on
again : (cells n u : ℕ) → 0 < n → place cells n (u + n) ≡ place cells n u + cells
again cells n u some = ap (λ k. k / n) (add-mul u n cells) ∙ add-mul-div_left (u * cells) cells some

module _ (cells n : ℕ) (lane : Lane) (even : IsEvenlySpacedLane 1 cells n 0 lane) where
  pub stands : (i : ℕ) → i < n → at lane (place cells n i) ≡ Some (i, 0)
  stands i low = subst (λ k. at lane k ≡ Some (i, 0)) (place_is cells n i) (even.stands i low (lane_is cells n i))

  -- a car of the lane is one of the n, is at its place, and is stopped
  pub record IsOne (x number speed : ℕ) : Type 0 where
    pub low : number < n
    pub at_place : place cells n number ≡ x
    pub stopped : speed ≡ 0

  pub who : (x number speed : ℕ) → at lane x ≡ Some (number, speed) → IsOne x number speed
  who x number speed here =
      let is = even.nothing_else x number speed here in
      let to : place cells n number ≡ x = sym (place_is cells n number) ∙ is.at_place in
      record {
        low = is.numbered;
        at_place = to;
        stopped = (some_pair_parts number number speed 0 (sym here ∙ sym (ap (at lane) to) ∙ stands number is.numbered)).1;
      }

  -- up to this distance ahead of a car there is no other
  pub gap_low : (x number speed : ℕ) → at lane x ≡ Some (number, speed) → cells / n ≤ gap lane x + 1
  gap_low x number speed here =
      let i = number in
      let q = cells / n in
      let is = who x number speed here in
      let low = is.low in
      let own = is.at_place in
      let some : 0 < n = omega (arith, low) in
      let size = even.same_length in
      let within = inside lane x (number, speed) here in
      let few = div-le_self cells n in
      let clear : (j : ℕ) → 1 ≤ j → j ≤ q - 1 → (c : Cell) → at lane (ahead (length lane) x j) ≡ c → at lane (ahead (length lane) x j) ≡ None =
      free_at x i q low own some (omega (arith, within, size)) refl in
      let far = clear_is_gap lane x (q - 1) (omega (arith, few, size, within)) (record { clear = λ j least most. clear j least most (at lane (ahead (length lane) x j)) refl }) in
      omega (arith, far)
    where
      free_at : (x i q : ℕ) → i < n → place cells n i ≡ x → 0 < n → x < cells → q ≡ cells / n → (j : ℕ) → 1 ≤ j → j ≤ q - 1 → (c : Cell) → at lane (ahead (length lane) x j) ≡ c → at lane (ahead (length lane) x j) ≡ None
      free_at x i q low own some within quotient j least most None is = is
      free_at x i q low own some within quotient j least most (Some other) is =
          let k = other.0 in
          let there = who (ahead (length lane) x j) k other.1 is in
          let reach : place cells n k ≡ ahead cells x j = there.at_place ∙ ap (λ m. ahead m x j) even.same_length in
          let few = div-le_self cells n in
          let short : x + j < cells + cells = omega (arith, within, most, few, quotient) in
          absurd (elim (ring_cases cells (x + j) short) [
            | inl w ↦
                let e : place cells n k ≡ x + j = reach ∙ w.1 in
                elim (cases_lt i k) [
                  | inl less ↦ let a = spread cells n i k some less in omega (arith, a, e, own, least, most, quotient)
                  | inr more ↦ elim (cases_eq i k) [
                    | inl same ↦ let a = ap (place cells n) same in omega (arith, a, e, own, least)
                    | inr other_car ↦ let a = spread cells n k i some (omega (arith, more, other_car)) in omega (arith, a, e, own, least)
                  ]
                ]
            | inr w ↦
                let round = w.0 in
                let e : place cells n k ≡ x + j - cells = reach ∙ w.1 in
                let a = spread cells n i (k + n) some (omega (arith, low)) in
                let b = again cells n k some in
                omega (arith, a, b, e, round, own, least, most, quotient)
          ])

  -- and the next car is not much further ahead
  pub gap_high : (x number speed : ℕ) → 1 ≤ cells / n → at lane x ≡ Some (number, speed) → gap lane x ≤ cells / n
  gap_high x number speed some_room here =
      let i = number in
      let is = who x number speed here in
      let low = is.low in
      let own = is.at_place in
      let some : 0 < n = omega (arith, low) in
      let size = even.same_length in
      let run = clear_within_gap lane x (gap lane x) (omega arith) in
      let d = place cells n (i + 1) - x in
      let a = spread cells n i (i + 1) some (omega arith) in
      let b = near cells n i some in
      elim (cases_lt (i + 1) n) [
        | inl less ↦
            let there = stands (i + 1) less in
            let fits = inside lane (place cells n (i + 1)) (i + 1, 0) there in
            let e : x + d ≡ place cells n (i + 1) = omega (arith, a, own) in
            let reach : ahead (length lane) x d ≡ place cells n (i + 1) = ap (λ k. k % length lane) e ∙ mod-eq_of_lt fits in
            let before = blocked lane x (gap lane x) d (place cells n (i + 1)) (i + 1, 0) run there (omega (arith, a, own, some_room)) reach in
            omega (arith, before, b, own)
        | inr last ↦
            let there = stands 0 some in
            let fits = inside lane (place cells n 0) (0, 0) there in
            let whole : i + 1 ≡ 0 + n = omega (arith, last, low) in
            let turn : place cells n (i + 1) ≡ place cells n 0 + cells = ap (place cells n) whole ∙ again cells n 0 some in
            let e : x + d ≡ place cells n 0 + length lane = omega (arith, a, own, turn, size) in
            let reach : ahead (length lane) x d ≡ place cells n 0 = ap (λ k. k % length lane) e ∙ add-mod_right (place cells n 0) (length lane) ∙ mod-eq_of_lt fits in
            let before = blocked lane x (gap lane x) d (place cells n 0) (0, 0) run there (omega (arith, a, own, some_room)) reach in
            omega (arith, before, b, own)
      ]

-- Evenly spaced cars flow on the triangle of their road.

-- cars of one speed, whose gaps are within bounds
record Cruise (lane : Lane) (s low high : ℕ) : Type 0 where
  speeds : (x number speed : ℕ) → at lane x ≡ Some (number, speed) → speed ≡ s
  least : (x number speed : ℕ) → at lane x ≡ Some (number, speed) → low ≤ gap lane x
  most : (x number speed : ℕ) → at lane x ≡ Some (number, speed) → gap lane x ≤ high

-- cars that are as fast as allowed by gaps that differ by at most one
record Queue (lane : Lane) (g : ℕ) : Type 0 where
  speeds : (x number speed : ℕ) → at lane x ≡ Some (number, speed) → g ≤ speed
  least : (x number speed : ℕ) → at lane x ≡ Some (number, speed) → g ≤ gap lane x
  most : (x number speed : ℕ) → at lane x ≡ Some (number, speed) → gap lane x ≤ g + 1

module _ (answer : ℕ → ℕ) (old new : Lane) (m : LaneMoves answer old new) (fits : LaneFits answer old) where
  -- the gap of a car, by the cell that it came from
  record Came (y speed : ℕ) : Type 0 where
    x : ℕ
    number : ℕ
    before : ℕ
    next : ℕ × ℕ
    was : at old x ≡ Some (number, before)
    ahead_was : at old (next_place old x) ≡ Some next
    at_speed : speed ≡ answer x
    gap_is : gap new y ≡ gap old x - answer x + answer (next_place old x)
    within : answer x ≤ gap old x

  came : (y number speed : ℕ) → at new y ≡ Some (number, speed) → Came y speed
  came y number speed there =
      let from = m.nothing_else y number speed there in
      let x = from.0 in
      let was = from.1.1.was in
      let next = next_taken old x (number, from.1.0) was in
      record {
        x = x;
        number = number;
        before = from.1.0;
        next = next.0;
        was = was;
        ahead_was = next.1;
        at_speed = from.1.1.at_speed;
        gap_is = ap (gap new) from.1.1.reaches ∙ gap_after answer old new m fits x number from.1.0 was;
        within = fits.gaps x number from.1.0 was;
      }

  -- cars that all go equally far keep their gaps
  cruise_on : (s v low high : ℕ) → Cruise old s low high → ((x number speed : ℕ) → at old x ≡ Some (number, speed) → answer x ≡ v) → Cruise new v low high
  cruise_on s v low high cruise goes = record {
    speeds = λ y number speed there. let c = came y number speed there in c.at_speed ∙ goes c.x c.number c.before c.was;
    least = λ y number speed there.
        let c = came y number speed there in
        let own = goes c.x c.number c.before c.was in
        let other = goes (next_place old c.x) c.next.0 c.next.1 c.ahead_was in
        let is = c.gap_is in
        let within = c.within in
        let bound = cruise.least c.x c.number c.before c.was in
        omega (arith, own, other, is, within, bound);
    most = λ y number speed there.
        let c = came y number speed there in
        let own = goes c.x c.number c.before c.was in
        let other = goes (next_place old c.x) c.next.0 c.next.1 c.ahead_was in
        let is = c.gap_is in
        let within = c.within in
        let bound = cruise.most c.x c.number c.before c.was in
        omega (arith, own, other, is, within, bound);
  }

  -- cars that all go as far as they can take over the gaps of the next cars
  queue_on : (g : ℕ) → Queue old g → ((x number speed : ℕ) → at old x ≡ Some (number, speed) → answer x ≡ gap old x) → Queue new g
  queue_on g queue goes = record {
    speeds = λ y number speed there.
        let c = came y number speed there in
        let own = goes c.x c.number c.before c.was in
        let fast = c.at_speed in
        let bound = queue.least c.x c.number c.before c.was in
        omega (arith, own, fast, bound);
    least = λ y number speed there.
        let c = came y number speed there in
        let own = goes c.x c.number c.before c.was in
        let other = goes (next_place old c.x) c.next.0 c.next.1 c.ahead_was in
        let is = c.gap_is in
        let bound = queue.least (next_place old c.x) c.next.0 c.next.1 c.ahead_was in
        omega (arith, own, other, is, bound);
    most = λ y number speed there.
        let c = came y number speed there in
        let own = goes c.x c.number c.before c.was in
        let other = goes (next_place old c.x) c.next.0 c.next.1 c.ahead_was in
        let is = c.gap_is in
        let bound = queue.most (next_place old c.x) c.next.0 c.next.1 c.ahead_was in
        omega (arith, own, other, is, bound);
  }

-- the sum of the speeds of cars with room for the limit
by_room : (t limit g speed : ℕ) → speed ≡ min t limit → limit ≤ g → min (min (speed + 1) limit) g ≡ min (suc t) limit
by_room t limit g speed same room = omega (arith, same, room)

-- the regime of free flow
free : (limit count cells : ℕ) → Regime limit (limit * count) count limit
free limit count cells = record {
  Holds = λ t lane. Cruise lane (min t limit) limit cells;
  goes_on = λ t old new answer m fits goes cruise.
      cruise_on answer old new m fits (min t limit) (min (suc t) limit) limit cells cruise
      (λ x number speed here. goes x number speed here ∙ by_room t limit (gap old x) speed (cruise.speeds x number speed here) (cruise.least x number speed here));
  far = λ l t old answer goes cruise late now.
      let fast : min (suc t) limit ≡ limit = omega (arith, late) in
      let xs = standing_from l 0 old in
      sum_at_cars (λ (car : Car). answer car.place) (λ (car : Car). limit) l 0 old
      (λ x number speed here. let e : 0 + x ≡ x = omega arith in
      subst (λ k. answer k ≡ limit) (sym e) (goes x number speed here ∙ by_room t limit (gap old x) speed (cruise.speeds x number speed here) (cruise.least x number speed here) ∙ fast))
      ∙ sum_by-same (λ (car : Car). limit) limit xs (λ k d below. refl)
      ∙ ap (λ k. k * limit) (length-standing_from l 0 old ∙ now)
      ∙ mul_comm count limit;
}

-- the speeds of cars that start, and of cars without room to be faster
starting : (t g limit room speed : ℕ) → speed ≡ t → t < g → g ≤ room → g + 1 ≤ limit → min (min (speed + 1) limit) room ≡ suc t
starting t g limit room speed same below least fast = omega (arith, same, below, least, fast)

queuing : (g limit room speed : ℕ) → g ≤ speed → room ≤ g + 1 → g + 1 ≤ limit → min (min (speed + 1) limit) room ≡ room
queuing g limit room speed quick most fast = omega (arith, quick, most, fast)

-- a dense lane: all its cars start together, until they lack the room to be faster
record Dense (t g : ℕ) (lane : Lane) : Type 0 where
  starts : t ≤ g → Cruise lane t g (g + 1)
  queues : g ≤ t → Queue lane g

as_queue : (lane : Lane) (t g : ℕ) → g ≤ t → Cruise lane t g (g + 1) → Queue lane g
as_queue lane t g late cruise = record {
  speeds = λ x number speed here. let e = cruise.speeds x number speed here in omega (arith, e, late);
  least = cruise.least;
  most = cruise.most;
}

-- the regime of dense traffic
dense : (limit count cells g : ℕ) → g + 1 ≤ limit → 0 < count → Regime limit (cells - count) count limit
dense limit count cells g fast some = record {
  Holds = λ t lane. (length lane ≡ cells) × Dense t g lane;
  goes_on = λ t old new answer m fits goes holds. (
    m.same_length ∙ holds.0,
    elim (cases_lt t g) [
      | inl early ↦
          let cruise = holds.1.starts (omega (arith, early)) in
          let on = cruise_on answer old new m fits t (suc t) g (g + 1) cruise (λ x number speed here. goes x number speed here ∙ starting t g limit (gap old x) speed (cruise.speeds x number speed here) early (cruise.least x number speed here) fast) in
          record { starts = λ h. on; queues = λ h. as_queue new (suc t) g h on }
      | inr late ↦
          let queue = holds.1.queues late in
          let on = queue_on answer old new m fits g queue (λ x number speed here. goes x number speed here ∙ queuing g limit (gap old x) speed (queue.speeds x number speed here) (queue.most x number speed here) fast) in
          record { starts = λ h. absurd (omega (arith, h, late)); queues = λ h. on }
    ],
  );
  far = λ l t old answer goes holds late now.
      let queue = holds.1.queues (omega (arith, late, fast)) in
      let size = holds.0 in
      let whole = lane_taken_or_empty old in
      sum_at_cars (λ (car : Car). answer car.place) (λ (car : Car). gap old car.place) l 0 old
      (λ x number speed here. let e : 0 + x ≡ x = omega arith in
      subst (λ k. answer k ≡ gap old k) (sym e) (goes x number speed here ∙ queuing g limit (gap old x) speed (queue.speeds x number speed here) (queue.most x number speed here) fast))
      ∙ gaps_total l old (omega (arith, now, some))
      ∙ (let e : lane_empty_cells old ≡ cells - count = omega (arith, size, whole, now) in e);
}

pub even_cars_flow_on_triangle : EvenCarsFlowOnTriangle
unfolding dense free
even_cars_flow_on_triangle cells limit n rule seed step road sum is fits even warm comes =
    let legal = even_legal 1 cells limit n seed.road fits even in
    let count = even_count 1 cells limit n seed.road fits even in
    let lane = lane_of seed.road 0 in
    let on_lane = even.each_lane 0 (omega arith) in
    let room = fits.room in
    let most : seed.road.limit * cars seed.road ≡ limit * n = ap (λ k. k * cars seed.road) even.same_limit ∙ ap (λ k. limit * k) count in
    let one = even.same_lanes in
    let own = one_sum lane_car_count seed.road.lanes one in
    let holes = one_sum lane_empty_cells seed.road.lanes one in
    let each_count = only_lane (λ l. lane_car_count (lane_of seed.road l) ≡ n) seed.road.lanes one (sym own ∙ count) in
    let whole = lane_taken_or_empty lane in
    let size = on_lane.same_length in
    let empty : empty_cells seed.road ≡ cells - n = omega (arith, own, holes, whole, size, count) in
    let all : min (limit * n) (cells - n) ≡ max_distance seed.road = sym (ap (λ k. min k (empty_cells seed.road)) most ∙ ap (λ k. min (limit * n) k) empty) in
    elim (cases_lt cells (n * (limit + 1))) [
      | inl many ↦
          let some : 0 < n = few_none cells n limit many in
          let q = cells / n in
          let least : 1 ≤ q = (le-div_iff_mul-le {k = n} {x = 1} {y = cells} some).1 (omega (arith, room)) in
          let most : q < limit + 1 = (div-lt_iff_lt-mul {k = n} {x = cells} {y = limit + 1} some).1 (let e = mul_comm n (limit + 1) in omega (arith, many, e)) in
          let g = q - 1 in
          let start : Cruise lane 0 g (g + 1) = record {
            speeds = λ x number speed here. (who cells n lane on_lane x number speed here).stopped;
            least = λ x number speed here. let a = gap_low cells n lane on_lane x number speed here in omega (arith, a);
            most = λ x number speed here. let a = gap_high cells n lane on_lane x number speed least here in omega (arith, a, least);
          } in
          let regime = dense limit n cells g (omega (arith, least, most)) some in
          let way = flows_by rule seed legal (safe_by limit) (nasch_moves_by rule seed limit is even.same_limit) limit (λ l. cells - n) (λ l. n) each_count (λ l. regime)
          (only_lane (λ l. regime.Holds 0 (lane_of seed.road l)) seed.road.lanes one (on_lane.same_length, record { starts = λ h. start; queues = λ h. as_queue lane 0 g h start })) step road sum comes in
          way.gone warm ∙ ap (λ k. (step - seed.warm) * k) (one_total (λ l. cells - n) seed.road.lanes one) ∙ (let e : cells - n ≡ min (limit * n) (cells - n) = fewer_holes cells n limit many in ap (λ k. (step - seed.warm) * k) (e ∙ all))
      | inr few ↦
          let start : Cruise lane (min 0 limit) limit cells = record {
            speeds = λ x number speed here. (who cells n lane on_lane x number speed here).stopped ∙ (let e : 0 ≡ min 0 limit = omega arith in e);
            least = λ x number speed here.
                let low = (who cells n lane on_lane x number speed here).low in
                let a = gap_low cells n lane on_lane x number speed here in
                let b : limit + 1 ≤ cells / n = (le-div_iff_mul-le {k = n} {x = limit + 1} {y = cells} (let h : 0 < n = omega (arith, low) in h)).1 (let e = mul_comm n (limit + 1) in omega (arith, few, e)) in
                omega (arith, a, b);
            most = λ x number speed here. let a = gap_below lane x x (number, speed) here in let b = on_lane.same_length in omega (arith, a, b);
          } in
          let regime = free limit n cells in
          let way = flows_by rule seed legal (safe_by limit) (nasch_moves_by rule seed limit is even.same_limit) limit (λ l. limit * n) (λ l. n) each_count (λ l. regime)
          (only_lane (λ l. regime.Holds 0 (lane_of seed.road l)) seed.road.lanes one start) step road sum comes in
          way.gone warm ∙ ap (λ k. (step - seed.warm) * k) (one_total (λ l. limit * n) seed.road.lanes one) ∙ (let e : limit * n ≡ min (limit * n) (cells - n) = fewer_cars cells n limit few in ap (λ k. (step - seed.warm) * k) (e ∙ all))
    ]
  where
    few_none : (cells n limit : ℕ) → cells < n * (limit + 1) → 0 < n
    few_none cells zero limit many = absurd (omega (arith, many))
    few_none cells (suc n) limit many = omega arith

    fewer_holes : (cells n limit : ℕ) → cells < n * (limit + 1) → cells - n ≡ min (limit * n) (cells - n)
    fewer_holes cells n limit many = omega (arith, many)

    fewer_cars : (cells n limit : ℕ) → n * (limit + 1) ≤ cells → limit * n ≡ min (limit * n) (cells - n)
    fewer_cars cells n limit few = omega (arith, few)
