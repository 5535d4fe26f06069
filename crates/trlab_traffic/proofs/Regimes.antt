-- Runs without lane changes and without randomization, lane by lane: a property of each lane at a step, and
-- the distance of its cars.
use Rattle.std.proofs.Common.{◌≡◌, ℕ, zero, suc, ◌+◌, ◌-◌, ◌*◌, ◌<◌, ◌≤◌, min, Some, [], ◌∷◌, length, refl}
use Rattle.std.proofs.Common.{sym, ◌∙◌, ap, subst, inl, inr, arith, nat_le, sum_by, le-leb}
use Rattle.std.proofs.lemmas.Bool.{cases_lt, lt-leb}
use Rattle.trlab_road.specs.declared.car.Car.{Car}
use Rattle.trlab_road.specs.Cells.{Cells, Lane, at, lane_car_count, lane_of, IsLegal, standing_from}
use Rattle.trlab_road.{specs.{Gaps.gap, Motion.{Fits, LaneFits, LaneMoves, Moves}}, proofs.Ring.car_in}
use Rattle.trlab_machine.specs.declared.dice.Dice.{Dice}
use Rattle.trlab_rules.specs.Rules.{Programs, IsNasch}
use Rattle.trlab_step.specs.{declared.tally.StepTally.StepTally, Laws.IsLegalLike, Next.IsNext}
use Rattle.trlab_step.{specs.Run.{ComesTo, Seed, dice_at}, proofs.NextLaws.{like_itself, like_next}}
use Rattle.trlab_traffic.{specs.Comparison.ReachesSpeedAtOnce, proofs.Gaps.motion_keeps_lane_cars}
use Rattle.trlab_traffic.proofs.{Lanes.{sum_at_cars, sum_of_lanes, total}, FreeFlow.{one_more, one_rule}}
use Rattle.trlab_traffic.proofs.Steps.{answers_fit, next_legal_like, answered, motion_alone, safe_motion}
use Rattle.trlab_traffic.proofs.Capacities.{distance_counted, distance_uncounted, speeds_total}

-- a regime of a lane of a run in which each car's new speed follows from its speed and its gap: a property
-- of the lane at a step, and the distance of all its cars from some step on
pub record RegimeBy (speed_by : ℕ → ℕ → ℕ) (each count begin : ℕ) : Type 1 where
  pub Holds : ℕ → Lane → Type 0
  pub goes_on : (t : ℕ) (old new : Lane) (answer : ℕ → ℕ) → LaneMoves answer old new → LaneFits answer old
      → ((x number speed : ℕ) → at old x ≡ Some (number, speed) → answer x ≡ speed_by speed (gap old x)) → Holds t old → Holds (suc t) new
  pub far : (l t : ℕ) (old : Lane) (answer : ℕ → ℕ)
      → ((x number speed : ℕ) → at old x ≡ Some (number, speed) → answer x ≡ speed_by speed (gap old x)) → Holds t old → begin ≤ t + 1 → lane_car_count old ≡ count
      → sum_by (λ (car : Car). answer car.place) (standing_from l 0 old) ≡ each

-- a motion in which it does
pub record MotionBy (speed_by : ℕ → ℕ → ℕ) (old new : Cells) : Type 0 where
  pub speeds : ℕ → ℕ → ℕ
  pub goes : (l x number speed : ℕ) → at (lane_of old l) x ≡ Some (number, speed) → speeds l x ≡ speed_by speed (gap (lane_of old l) x)
  pub fits : Fits speeds old
  pub moves : Moves speeds old new

-- a rule of which each step of a run is such a motion
abbrev pub MovesBy : (ℕ → ℕ → ℕ) → Programs → Seed → Type 0
MovesBy speed_by rule seed = (dice : Dice) (old new : Cells) (tally : StepTally) → IsLegalLike seed.road old → IsNext rule dice old new tally → MotionBy speed_by old new

-- each lane of a run keeps to its regime
module _ (rule : Programs) (seed : Seed) (legal : IsLegal seed.road) (speed_by : ℕ → ℕ → ℕ) (moves_by : MovesBy speed_by rule seed) (begin : ℕ) (each count : ℕ → ℕ)
    (same_count : (l : ℕ) → l < length seed.road.lanes → lane_car_count (lane_of seed.road l) ≡ count l) (regime : (l : ℕ) → RegimeBy speed_by (each l) (count l) begin)
    (start : (l : ℕ) → l < length seed.road.lanes → (regime l).Holds 0 (lane_of seed.road l)) where
  pub record Flows (step : ℕ) (road : Cells) (sum : StepTally) : Type 0 where
    pub like : IsLegalLike seed.road road
    pub full : (l : ℕ) → l < length seed.road.lanes → lane_car_count (lane_of road l) ≡ count l
    pub holds : (l : ℕ) → l < length seed.road.lanes → (regime l).Holds step (lane_of road l)
    pub gone : begin ≤ seed.warm + 1 → sum.distance ≡ (step - seed.warm) * total each (length seed.road.lanes)

  pub flows_by : (step : ℕ) (road : Cells) (sum : StepTally) → ComesTo seed ((0, rule) ∷ []) step road sum → Flows step road sum
  flows_by zero road sum comes = record {
    like = subst (IsLegalLike seed.road) (sym comes.1) (like_itself seed.road legal);
    full = λ l on. ap (λ (now : Cells). lane_car_count (lane_of now l)) comes.1 ∙ same_count l on;
    holds = λ l on. subst (λ (now : Cells). (regime l).Holds 0 (lane_of now l)) (sym comes.1) (start l on);
    gone = λ warm. subst (λ (t : StepTally). t.distance ≡ (0 - seed.warm) * total each (length seed.road.lanes)) (sym comes.2) (let e : 0 - seed.warm ≡ 0 = omega arith in rw e (omega arith));
  }
  flows_by (suc step) road sum comes =
      let before = comes.0 in
      let so_far = comes.1 in
      let tally = comes.3 in
      let on = comes.5 in
      let way = flows_by step before so_far comes.4 in
      let same = one_rule rule comes.2 step on.under in
      let next = subst (λ (r : Programs). IsNext r (dice_at seed step) before road tally) (sym same) on.next in
      let motion = moves_by (dice_at seed step) before road tally way.like next in
      let lanes = way.like.same_lanes in
      let all = total each (length seed.road.lanes) in
      let far : begin ≤ step + 1 → tally.distance ≡ all = λ late.
      next.1.distance
      ∙ speeds_total motion.speeds before road motion.fits motion.moves
      ∙ sum_of_lanes (λ (car : Car). motion.speeds car.lane car.place) each 0 before.lanes (λ l low. let e : l ≡ 0 + l = omega arith in
      let below : l < length seed.road.lanes = omega (arith, low, lanes) in
      subst (λ k. sum_by (λ (car : Car). motion.speeds car.lane car.place) (standing_from k 0 (lane_of before l)) ≡ each l) e
      (sum_at_cars (λ (car : Car). motion.speeds car.lane car.place) (λ (car : Car). motion.speeds l car.place) l 0 (lane_of before l) (λ x number speed here. refl)
      ∙ (regime l).far l step (lane_of before l) (motion.speeds l) (motion.goes l) (way.holds l below) late (way.full l below)))
      ∙ ap (total each) lanes in
      record {
        like = like_next seed.road before road way.like (next_legal_like rule (dice_at seed step) before road tally way.like.legal next);
        full = λ l low. motion_keeps_lane_cars motion.speeds before road l motion.moves motion.fits ∙ way.full l low;
        holds = λ l low.
            let below : l < length before.lanes = omega (arith, low, lanes) in
            (regime l).goes_on step (lane_of before l) (lane_of road l) (motion.speeds l) (motion.moves.each_lane l below) (motion.fits.each_lane l below) (motion.goes l) (way.holds l low);
        gone = λ warm. elim (cases_lt step seed.warm) [
          | inl early ↦
              distance_uncounted (nat_le seed.warm step) sum so_far tally on.counted (lt-leb seed.warm step early)
              ∙ way.gone warm
              ∙ (let e : step - seed.warm ≡ suc step - seed.warm = omega (arith, early) in ap (λ k. k * all) e)
          | inr late ↦
              distance_counted (nat_le seed.warm step) sum so_far tally on.counted (le-leb seed.warm step late)
              ∙ one_more so_far.distance tally.distance all step seed.warm (way.gone warm) (far (omega (arith, warm, late))) late
        ];
      }

-- the rule of 1992 without randomization
abbrev pub safe_by : ℕ → ℕ → ℕ → ℕ
safe_by limit speed g = min (min (speed + 1) limit) g

abbrev pub Regime : ℕ → ℕ → ℕ → ℕ → Type 1
Regime limit each count begin = RegimeBy (safe_by limit) each count begin

pub nasch_moves_by : (rule : Programs) (seed : Seed) (limit : ℕ) → IsNasch 0 rule → seed.road.limit ≡ limit → MovesBy (safe_by limit) rule seed
nasch_moves_by rule seed limit is same_limit dice old new tally like next =
    let motion = safe_motion rule dice old new tally is like.legal next in
    let by_limit : old.limit ≡ limit = like.same_limit ∙ same_limit in
    record {
      speeds = motion.speeds;
      goes = λ l x number speed here. motion.safe (car_in l x number speed) here ∙ ap (λ k. min (min (speed + 1) k) (gap (lane_of old l) x)) by_limit;
      fits = motion.fits;
      moves = motion.moves;
    }

-- cars that reach their speed at once
abbrev pub at_once_by : ℕ → ℕ → ℕ → ℕ
at_once_by limit speed g = min limit g

-- as with the limit 1
pub slow_moves_by : (rule : Programs) (seed : Seed) → IsNasch 0 rule → seed.road.limit ≡ 1 → MovesBy (at_once_by seed.road.limit) rule seed
slow_moves_by rule seed is one dice old new tally like next =
    let motion = nasch_moves_by rule seed 1 is one dice old new tally like next in
    record {
      speeds = motion.speeds;
      goes = λ l x number speed here.
          let far = motion.goes l x number speed here in
          let e : min seed.road.limit (gap (lane_of old l) x) ≡ min 1 (gap (lane_of old l) x) = ap (λ k. min k (gap (lane_of old l) x)) one in
          omega (arith, far, e);
      fits = motion.fits;
      moves = motion.moves;
    }

-- and by their gaps
pub gap_moves_by : (rule : Programs) (seed : Seed) → ReachesSpeedAtOnce rule → MovesBy (at_once_by seed.road.limit) rule seed
gap_moves_by rule seed is dice old new tally like next =
    let phase = motion_alone rule dice old new tally is.stays next in
    let speeds = phase.0 in
    record {
      speeds = speeds;
      goes = λ l x number speed here.
          answered (λ view words. min view.limit view.gap) rule.motion dice old speeds is.motion like.legal phase.1 (car_in l x number speed) here
          ∙ ap (λ k. min k (gap (lane_of old l) x)) like.same_limit;
      fits = answers_fit rule.motion dice old speeds phase.1;
      moves = phase.2;
    }
