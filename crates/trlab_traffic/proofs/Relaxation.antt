-- Runs without randomization relax: each lane reaches its triangle.
use Rattle.std.proofs.Common.{◌≡◌, ℕ, zero, suc, ◌+◌, ◌-◌, ◌*◌, ◌<◌, ◌≤◌, min, Some, [], ◌∷◌, length, refl}
use Rattle.std.proofs.Common.{sym, ◌∙◌, ap, subst, inl, inr, arith, mul-add, mul-zero, suc-mul, sum_by}
use Rattle.std.proofs.lemmas.{Bool.cases_lt, List.get_or_past}
use Rattle.trlab_road.specs.{Cells.{Cells, Lane, at, cars, lane_car_count, lane_of, IsLegal}, Gaps.gap}
use Rattle.trlab_road.specs.Motion.{LaneFits, LaneMoves}
use Rattle.trlab_rules.specs.Rules.{Programs, IsNasch}
use Rattle.trlab_step.specs.{declared.tally.StepTally.StepTally, Laws.IsLegalLike, Run.{ComesTo, Seed}}
use Rattle.trlab_traffic.specs.Terms.{empty_cells, max_distance, lane_max_distance, lane_empty_cells}
use Rattle.trlab_traffic.specs.Diagram.{GapReachesTriangle, HasRelaxed, NaschReachesTriangle}
use Rattle.trlab_traffic.specs.Diagram.{NaschReachesTriangleByLane, Rule184ReachesTriangle}
use Rattle.trlab_traffic.proofs.{Lanes.{one_sum, by_lane, total, total_same}, RoomAhead.lane_taken_or_empty}
use Rattle.trlab_traffic.proofs.Regimes.{MovesBy, Regime, RegimeBy, at_once_by, flows_by, gap_moves_by}
use Rattle.trlab_traffic.proofs.{Regimes.{nasch_moves_by, safe_by, slow_moves_by}, Leaping.Leaps}
use Rattle.trlab_traffic.proofs.{Leaping.leaps_itself, Readiness.{AreQuick, settles, quickens, Leaping}}
use Rattle.trlab_traffic.proofs.Readiness.{Suffices, OnWay, ready, leapt_far, leap_on}

-- more steps suffice too
pub more_suffice : (limit cells count a b : ℕ) → Suffices limit cells count a → a ≤ b → Suffices limit cells count b
more_suffice limit cells count a b soon more =
    let e : a + (b - a) ≡ b = omega (arith, more) in
    let f = sym (ap (λ k. limit * k) e) ∙ mul-add limit a (b - a) in
    omega (arith, soon, f)

-- the regime of a run from any start
pub to_capacity : (limit count cells wait : ℕ) → 1 ≤ limit → 1 ≤ cells → 1 ≤ wait → Regime limit (min (limit * count) (cells - count)) count (limit + wait)
to_capacity limit count cells wait some_limit some_cell some_wait = record {
  Holds = λ t lane. OnWay limit cells count wait t lane;
  goes_on = λ t old new answer m fits goes way. record {
    size = m.same_length ∙ way.size;
    settled = λ some. settles limit answer old new m fits goes;
    quick = λ some. quick_next t old new answer m fits goes way;
    soon = way.soon;
    leaping = λ late full. leap_next t old new answer m fits goes way late full;
  };
  far = λ l t old answer goes way late full.
      let soon = more_suffice limit cells count wait (t - limit + 1) way.soon (omega (arith, late)) in
      leapt_far limit cells count (t - limit) old answer some_limit some_cell way.size full (way.leaping (omega (arith, late, some_wait)) full) soon
      (ready limit t old answer some_limit (omega (arith, late, some_wait)) (way.quick (omega (arith, late, some_limit, some_wait))) goes) l;
}
  where
    quick_next : (t : ℕ) (old new : Lane) (answer : ℕ → ℕ) → LaneMoves answer old new → LaneFits answer old → ((x number speed : ℕ) → at old x ≡ Some (number, speed) → answer x ≡ min (min (speed + 1) limit) (gap old x)) → OnWay limit cells count wait t old → AreQuick limit (suc t) new
    quick_next zero old new answer m fits goes way = record { quick = λ x number speed here. inr (let k : 1 ≤ speed + 1 = omega arith in k) }
    quick_next (suc t) old new answer m fits goes way = quickens limit answer old new m fits goes (suc t) (way.settled (omega arith)) (way.quick (omega arith))

    leap_next : (t : ℕ) (old new : Lane) (answer : ℕ → ℕ) → LaneMoves answer old new → LaneFits answer old → ((x number speed : ℕ) → at old x ≡ Some (number, speed) → answer x ≡ min (min (speed + 1) limit) (gap old x)) → OnWay limit cells count wait t old
        → limit ≤ suc t → lane_car_count new ≡ count → Leaping limit cells count (suc t - limit) new
    leap_next t old new answer m fits goes way late full =
        elim (cases_lt t limit) [
          | inl first ↦
              let e : 0 ≡ suc t - limit = omega (arith, first, late) in
              record { first = new; size = m.same_length ∙ way.size; full = full; leaps = subst (λ k. Leaps limit new new k) e (leaps_itself limit new) }
          | inr more ↦
              let e : suc (t - limit) ≡ suc t - limit = omega (arith, more) in
              let goes_far = ready limit t old answer some_limit more (way.quick (omega (arith, more, some_limit))) goes in
              subst (λ k. Leaping limit cells count k new) e (leap_on limit cells count (t - limit) answer old new some_limit some_cell m fits goes_far (way.leaping more) full)
        ]

-- the capacities of the lanes of a legal road, by the cells that their cars leave empty
capacities : (road : Cells) → IsLegal road → let cells = length (lane_of road 0) in let count : ℕ → ℕ = λ l. lane_car_count (lane_of road l) in
    total (λ l. min (road.limit * count l) (cells - count l)) (length road.lanes) ≡ sum_by (lane_max_distance road.limit) road.lanes
capacities road legal =
    let cells = length (lane_of road 0) in
    let count : ℕ → ℕ = λ l. lane_car_count (lane_of road l) in
    total_same (λ l. min (road.limit * count l) (cells - count l)) (λ l. lane_max_distance road.limit (lane_of road l)) (length road.lanes) (λ l on.
    let whole = lane_taken_or_empty (lane_of road l) in
    let size = legal.shape.equal l on in
    let e : cells - count l ≡ lane_empty_cells (lane_of road l) = omega (arith, whole, size) in
    ap (min (road.limit * count l)) e)
    ∙ sym (by_lane (lane_max_distance road.limit) road.lanes)

-- on a road of one lane, the capacity of the lane is the capacity of the road
one_capacity : (road : Cells) → length road.lanes ≡ 1 → sum_by (lane_max_distance road.limit) road.lanes ≡ max_distance road
one_capacity road one =
    let lane = lane_of road 0 in
    one_sum (lane_max_distance road.limit) road.lanes one
    ∙ ap (λ k. min (road.limit * k) (lane_empty_cells lane)) (sym (one_sum lane_car_count road.lanes one))
    ∙ ap (min (road.limit * cars road)) (sym (one_sum lane_empty_cells road.lanes one))

-- as many steps as cells suffice for each lane
pub cells_suffice : (seed : Seed) → IsLegal seed.road → (l : ℕ) → Suffices seed.road.limit (length (lane_of seed.road 0)) (lane_car_count (lane_of seed.road l)) (length (lane_of seed.road 0))
cells_suffice seed legal l =
    let v = seed.road.limit in
    let cells = length (lane_of seed.road 0) in
    let some = legal.shape.limit.some_limit in
    let e : v ≡ suc (v - 1) = omega (arith, some) in
    let f = ap (λ j. j * cells) e ∙ suc-mul (v - 1) cells in
    omega (arith, f)

-- the capacity of a lane of a legal road, and of a lane that it does not have
lane_suffices : (road : Cells) (steps l : ℕ) → IsLegal road → ((l : ℕ) → l < length road.lanes → lane_max_distance road.limit (lane_of road l) ≤ road.limit * steps)
    → Suffices road.limit (length (lane_of road 0)) (lane_car_count (lane_of road l)) steps
lane_suffices road steps l legal soon =
    elim (cases_lt l (length road.lanes)) [
      | inl on ↦
          let whole = lane_taken_or_empty (lane_of road l) in
          let size = legal.shape.equal l on in
          let enough = soon l on in
          omega (arith, whole, size, enough)
      | inr past ↦
          let none : lane_car_count (lane_of road l) ≡ 0 = ap lane_car_count (get_or_past road.lanes l [] past) in
          let e = ap (λ k. road.limit * k) none ∙ mul-zero road.limit in
          omega (arith, e)
    ]

-- the lanes of a run
module _ (rule : Programs) (seed : Seed) (wait : ℕ) (is : IsNasch 0 rule) (legal : IsLegal seed.road) (some_wait : 1 ≤ wait)
    (soon : (l : ℕ) → Suffices seed.road.limit (length (lane_of seed.road 0)) (lane_car_count (lane_of seed.road l)) wait) where
  abbrev limit : ℕ
  limit = seed.road.limit

  abbrev cells : ℕ
  cells = length (lane_of seed.road 0)

  abbrev count : ℕ → ℕ
  count l = lane_car_count (lane_of seed.road l)

  abbrev regime : (l : ℕ) → Regime limit (min (limit * count l) (cells - count l)) (count l) (limit + wait)
  regime l = to_capacity limit (count l) cells wait legal.shape.limit.some_limit legal.shape.cells.some_cell some_wait

  start : (l : ℕ) → l < length seed.road.lanes → OnWay limit cells (count l) wait 0 (lane_of seed.road l)
  start l on =
      let some_limit = legal.shape.limit.some_limit in
      record {
        size = legal.shape.equal l on;
        settled = λ some. absurd (omega (arith, some));
        quick = λ some. absurd (omega (arith, some));
        soon = soon l;
        leaping = λ early full. absurd (omega (arith, early, some_limit));
      }

  way_gone : (step : ℕ) (road : Cells) (sum : StepTally) → ComesTo seed ((0, rule) ∷ []) step road sum → limit + wait ≤ seed.warm + 1
      → sum.distance ≡ (step - seed.warm) * total (λ l. min (limit * count l) (cells - count l)) (length seed.road.lanes)
  unfolding to_capacity
  way_gone step road sum comes late =
      (flows_by rule seed legal (safe_by limit) (nasch_moves_by rule seed limit is refl) (limit + wait) (λ l. min (limit * count l) (cells - count l)) count (λ l on. refl) regime start step road sum comes).gone late

  pub record LaneOfRun (step l : ℕ) (road : Cells) : Type 0 where
    pub like : IsLegalLike seed.road road
    pub full : lane_car_count (lane_of road l) ≡ count l
    pub way : OnWay limit cells (count l) wait step (lane_of road l)

  pub lane_of_run : (step : ℕ) (road : Cells) (sum : StepTally) → ComesTo seed ((0, rule) ∷ []) step road sum → (l : ℕ) → l < length seed.road.lanes → LaneOfRun step l road
  unfolding to_capacity
  lane_of_run step road sum comes l on =
      let f = flows_by rule seed legal (safe_by limit) (nasch_moves_by rule seed limit is refl) (limit + wait) (λ l. min (limit * count l) (cells - count l)) count (λ l on. refl) regime start step road sum comes in
      record { like = f.like; full = f.full l on; way = f.holds l on }

pub nasch_reaches_triangle_by_lane : NaschReachesTriangleByLane
nasch_reaches_triangle_by_lane rule seed step road sum is legal relaxed comes =
    let limit = seed.road.limit in
    let wait = seed.warm + 1 - limit in
    let fast = (relaxed 0 (legal.shape.lanes.some_lane)).to_accelerate in
    way_gone rule seed wait is legal (omega (arith, fast)) (λ l. lane_suffices seed.road wait l legal (λ l on. (relaxed l on).to_spread)) step road sum comes (omega (arith, fast))
    ∙ ap (λ k. (step - seed.warm) * k) (capacities seed.road legal)

-- the capacity of a road of one lane
one_lane_capacity : (road : Cells) → length road.lanes ≡ 1 → (l : ℕ) → l < length road.lanes → lane_max_distance road.limit (lane_of road l) ≡ max_distance road
one_lane_capacity road one l on =
    let e : l ≡ 0 = omega (arith, on, one) in
    ap (λ k. lane_max_distance road.limit (lane_of road k)) e
    ∙ sym (one_sum (lane_max_distance road.limit) road.lanes one)
    ∙ one_capacity road one

pub nasch_reaches_triangle : NaschReachesTriangle
nasch_reaches_triangle rule seed step road sum is legal one relaxed comes =
    nasch_reaches_triangle_by_lane rule seed step road sum is legal
    (λ l on. subst (λ most. HasRelaxed seed.road.limit seed.road.limit most seed.warm) (sym (one_lane_capacity seed.road one l on)) relaxed) comes
    ∙ ap (λ k. (step - seed.warm) * k) (one_capacity seed.road one)

-- if cars reach their speed at once, a lane leaps from the start
pub record OnWayAtOnce (limit cells count wait t : ℕ) (lane : Lane) : Type 0 where
  pub size : length lane ≡ cells
  pub soon : Suffices limit cells count wait
  pub leaping : lane_car_count lane ≡ count → Leaping limit cells count t lane

to_capacity_at_once : (limit count cells wait : ℕ) → 1 ≤ limit → 1 ≤ cells → RegimeBy (at_once_by limit) (min (limit * count) (cells - count)) count wait
to_capacity_at_once limit count cells wait some_limit some_cell = record {
  Holds = λ t lane. OnWayAtOnce limit cells count wait t lane;
  goes_on = λ t old new answer m fits goes way. record {
    size = m.same_length ∙ way.size;
    soon = way.soon;
    leaping = leap_on limit cells count t answer old new some_limit some_cell m fits goes way.leaping;
  };
  far = λ l t old answer goes way late full.
      leapt_far limit cells count t old answer some_limit some_cell way.size full (way.leaping full) (more_suffice limit cells count wait (t + 1) way.soon late) goes l;
}

-- the lanes of such a run
module _ (rule : Programs) (seed : Seed) (wait : ℕ) (legal : IsLegal seed.road) (moves_by : MovesBy (at_once_by seed.road.limit) rule seed)
    (soon : (l : ℕ) → Suffices seed.road.limit (length (lane_of seed.road 0)) (lane_car_count (lane_of seed.road l)) wait) where
  abbrev own_limit : ℕ
  own_limit = seed.road.limit

  abbrev own_cells : ℕ
  own_cells = length (lane_of seed.road 0)

  abbrev own_count : ℕ → ℕ
  own_count l = lane_car_count (lane_of seed.road l)

  start_at_once : (l : ℕ) → l < length seed.road.lanes → OnWayAtOnce own_limit own_cells (own_count l) wait 0 (lane_of seed.road l)
  start_at_once l on =
      let size = legal.shape.equal l on in
      record { size = size; soon = soon l; leaping = λ full. record { first = lane_of seed.road l; size = size; full = full; leaps = leaps_itself own_limit (lane_of seed.road l) } }

  abbrev regime_at_once : (l : ℕ) → RegimeBy (at_once_by own_limit) (min (own_limit * own_count l) (own_cells - own_count l)) (own_count l) wait
  regime_at_once l = to_capacity_at_once own_limit (own_count l) own_cells wait legal.shape.limit.some_limit legal.shape.cells.some_cell

  gone_at_once : (step : ℕ) (road : Cells) (sum : StepTally) → ComesTo seed ((0, rule) ∷ []) step road sum → wait ≤ seed.warm + 1
      → sum.distance ≡ (step - seed.warm) * total (λ l. min (own_limit * own_count l) (own_cells - own_count l)) (length seed.road.lanes)
  unfolding to_capacity_at_once
  gone_at_once step road sum comes late =
      (flows_by rule seed legal (at_once_by own_limit) moves_by wait (λ l. min (own_limit * own_count l) (own_cells - own_count l)) own_count (λ l on. refl) regime_at_once start_at_once step road sum comes).gone late

  pub record LaneAtOnce (step l : ℕ) (road : Cells) : Type 0 where
    pub like : IsLegalLike seed.road road
    pub full : lane_car_count (lane_of road l) ≡ own_count l
    pub way : OnWayAtOnce own_limit own_cells (own_count l) wait step (lane_of road l)

  pub lane_at_once : (step : ℕ) (road : Cells) (sum : StepTally) → ComesTo seed ((0, rule) ∷ []) step road sum → (l : ℕ) → l < length seed.road.lanes → LaneAtOnce step l road
  unfolding to_capacity_at_once
  lane_at_once step road sum comes l on =
      let f = flows_by rule seed legal (at_once_by own_limit) moves_by wait (λ l. min (own_limit * own_count l) (own_cells - own_count l)) own_count (λ l on. refl) regime_at_once start_at_once step road sum comes in
      record { like = f.like; full = f.full l on; way = f.holds l on }

-- on one lane
at_once_reaches_triangle : (rule : Programs) (seed : Seed) (step : ℕ) (road : Cells) (sum : StepTally) → IsLegal seed.road → MovesBy (at_once_by seed.road.limit) rule seed → length seed.road.lanes ≡ 1
    → max_distance seed.road ≤ seed.road.limit * (seed.warm + 1) → ComesTo seed ((0, rule) ∷ []) step road sum → sum.distance ≡ (step - seed.warm) * max_distance seed.road
at_once_reaches_triangle rule seed step road sum legal moves_by one soon comes =
    let limit = seed.road.limit in
    let wait = seed.warm + 1 in
    gone_at_once rule seed wait legal moves_by
    (λ l. lane_suffices seed.road wait l legal (λ l on. subst (λ most. most ≤ limit * wait) (sym (one_lane_capacity seed.road one l on)) soon)) step road sum comes (omega arith)
    ∙ ap (λ k. (step - seed.warm) * k) (capacities seed.road legal)
    ∙ ap (λ k. (step - seed.warm) * k) (one_capacity seed.road one)

pub gap_reaches_triangle : GapReachesTriangle
gap_reaches_triangle rule seed step road sum is legal one soon comes =
    at_once_reaches_triangle rule seed step road sum legal (gap_moves_by rule seed is) one soon comes

pub rule_184_reaches_triangle : Rule184ReachesTriangle
rule_184_reaches_triangle rule seed step road sum is legal one slow late comes =
    let enough : 1 * cars seed.road ≡ cars seed.road = omega arith in
    at_once_reaches_triangle rule seed step road sum legal (slow_moves_by rule seed is slow) one
    (subst (λ v. min (v * cars seed.road) (empty_cells seed.road) ≤ v * (seed.warm + 1)) (sym slow) (omega (arith, late, enough))) comes
