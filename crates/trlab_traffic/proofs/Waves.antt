-- Kinematic waves: on a relaxed lane every car moves at the limit, or every car closes its gap.
use Rattle.std.proofs.Common.{◌≡◌, ℕ, zero, suc, ◌+◌, ◌-◌, ◌*◌, ◌<◌, ◌≤◌, min, Bool, true, false, is_some}
use Rattle.std.proofs.Common.{Some, None, length, refl, sym, ◌∙◌, ap, subst, inl, inr, arith, mod-eq_of_lt}
use Rattle.std.proofs.{Common.{mul-suc, mul_comm}, Math.Nat.{add-mod_right, add-mul-mod_self_right}}
use Rattle.std.proofs.lemmas.Bool.{cases_lt}
use Rattle.trlab_road.specs.Cells.{Cell, Cells, IsAt, Lane, at, lane_car_count, lane_of, IsLegal}
use Rattle.trlab_road.specs.{Gaps.{ahead, gap, next_place}, Motion.LaneMoves}
use Rattle.trlab_road.proofs.{MotionLaws.{lane_same_count, on_lane}, Ring.apart_within_gaps}
use Rattle.trlab_rules.specs.Rules.{Programs, IsNasch}
use Rattle.trlab_step.specs.{declared.tally.StepTally.StepTally, Laws.IsLegalLike, Next.IsNext}
use Rattle.trlab_step.specs.{Published.car_after_motion, Run.{ComesTo, IsRoadAt, Seed, dice_at, in_force}}
use Rattle.trlab_step.proofs.RunLaws.{road_at_is_one}
use Rattle.trlab_traffic.{specs.Terms.{is_taken, always}, proofs.RoomAhead.lane_taken_or_empty}
use Rattle.trlab_traffic.specs.Waves.{AcceleratesIn, AccelerationEnds, CongestedCarsCloseGaps}
use Rattle.trlab_traffic.specs.Waves.{FreeFlowMovesAhead, IsCongested, IsDilute, JamsMoveBack, LaneHasRelaxed}
use Rattle.trlab_traffic.specs.Waves.{PatternIsPeriodic, PatternMovesAhead, PatternMovesBack}
use Rattle.trlab_traffic.{specs.LimitOne.digit, proofs.{FreeFlow.one_rule, Gaps.next_taken, Courses.total_le}}
use Rattle.trlab_traffic.proofs.Lanes.{ahead_below, ahead_more, ahead_none, run_lanes, total, total_turned}
use Rattle.trlab_traffic.proofs.Regimes.{MovesBy, at_once_by, gap_moves_by, nasch_moves_by, slow_moves_by}
use Rattle.trlab_traffic.proofs.{Heights.taken_total, Readiness.{Leaping, Suffices, by_gap, by_limit, ready}}
use Rattle.trlab_traffic.proofs.Relaxation.{cells_suffice, lane_at_once, lane_of_run, more_suffice}

-- numbers, each at most its partner, whose sum is that of their partners, are equal to them
same_values : (f g : ℕ → ℕ) (n : ℕ) → ((x : ℕ) → x < n → f x ≤ g x) → total f n ≡ total g n → (x : ℕ) → x < n → f x ≡ g x
same_values f g zero less all x low = absurd (omega (arith, low))
same_values f g (suc n) less all zero low =
    let first = less 0 (omega arith) in
    let rest = total_le (λ x. f (suc x)) (λ x. g (suc x)) n (λ x low. less (suc x) (omega (arith, low))) in
    omega (arith, all, first, rest)
same_values f g (suc n) less all (suc x) low =
    let first = less 0 (omega arith) in
    let later : (x : ℕ) → x < n → f (suc x) ≤ g (suc x) = λ x low. less (suc x) (omega (arith, low)) in
    let rest = total_le (λ x. f (suc x)) (λ x. g (suc x)) n later in
    same_values (λ x. f (suc x)) (λ x. g (suc x)) n later (omega (arith, all, first, rest)) x (omega (arith, low))

one_digit : (a b : Bool) → digit a ≡ digit b → a ≡ b
one_digit true true same = refl
one_digit true false same = absurd (omega (arith, same))
one_digit false true same = absurd (omega (arith, same))
one_digit false false same = refl

taken_digit : (lane : Lane) (x : ℕ) (car : ℕ × ℕ) → at lane x ≡ Some car → digit (is_taken lane x) ≡ 1
taken_digit lane x car here = ap (λ (c : Cell). digit (is_some c)) here

digit_low : (b : Bool) → digit b ≤ 1
digit_low true = omega arith
digit_low false = omega arith

-- the pattern of a lane after a motion that keeps its cars
module _ (answer : ℕ → ℕ) (old new : Lane) (m : LaneMoves answer old new) (count : lane_car_count new ≡ lane_car_count old) where
  turned_all : (r : ℕ) → total (λ x. digit (is_taken new (ahead (length old) x r))) (length old) ≡ lane_car_count old
  turned_all r =
      total_turned (λ y. digit (is_taken new y)) (length old) r
      ∙ ap (total (λ y. digit (is_taken new y))) (sym m.same_length)
      ∙ taken_total new ∙ count

  -- every car goes equally far
  pub all_ahead : (v : ℕ) → ((x number speed : ℕ) → at old x ≡ Some (number, speed) → answer x ≡ v) → PatternMovesAhead v old new
  all_ahead v goes = record {
    same_cells = m.same_length;
    moved = λ x low. sym (one_digit (is_taken old x) (is_taken new (ahead (length old) x v))
        (same_values (λ x. digit (is_taken old x)) (λ x. digit (is_taken new (ahead (length old) x v))) (length old)
        (λ x low. of_cell x (at old x) refl) (taken_total old ∙ sym (turned_all v)) x low));
  }
    where
      of_cell : (x : ℕ) (c : Cell) → at old x ≡ c → digit (is_taken old x) ≤ digit (is_taken new (ahead (length old) x v))
      of_cell x None is = let e = ap (λ (c : Cell). digit (is_some c)) is in omega (arith, e)
      of_cell x (Some car) is =
          let there = taken_digit new (ahead (length old) x (answer x)) (car.0, answer x) (m.arrives x car.0 car.1 is) in
          let e = ap (λ k. digit (is_taken new (ahead (length old) x k))) (goes x car.0 car.1 is) in
          let most = digit_low (is_taken old x) in
          omega (arith, there, e, most)

  -- every car closes its gap
  pub all_back : ((x number speed : ℕ) → at old x ≡ Some (number, speed) → answer x ≡ gap old x) → PatternMovesBack 1 old new
  all_back goes = record {
    same_cells = m.same_length;
    moved = λ x low. one_digit (is_taken new x) (is_taken old (ahead (length old) x 1))
        (same_values (λ x. digit (is_taken new x)) (λ x. digit (is_taken old (ahead (length old) x 1))) (length old)
        (λ x low. of_cell x (at new x) refl)
        (ap (total (λ y. digit (is_taken new y))) (sym m.same_length) ∙ taken_total new ∙ count
        ∙ sym (total_turned (λ y. digit (is_taken old y)) (length old) 1 ∙ taken_total old)) x low);
  }
    where
      of_cell : (x : ℕ) (c : Cell) → at new x ≡ c → digit (is_taken new x) ≤ digit (is_taken old (ahead (length old) x 1))
      of_cell x None is = let e = ap (λ (c : Cell). digit (is_some c)) is in omega (arith, e)
      of_cell x (Some car) is =
          let came = m.nothing_else x car.0 car.1 is in
          let z = came.0 in
          let was = came.1.1.was in
          let next = next_taken old z (car.0, came.1.0) was in
          let place : ahead (length old) x 1 ≡ next_place old z =
          ap (λ k. ahead (length old) k 1) (came.1.1.reaches ∙ ap (ahead (length old) z) (goes z car.0 came.1.0 was)) ∙ ahead_more (length old) z (gap old z) 1 in
          let there = ap (λ k. digit (is_taken old k)) place ∙ taken_digit old (next_place old z) next.0 next.1 in
          let most = digit_low (is_taken new x) in
          omega (arith, there, most)

-- a lane of a run
module _ (seed : Seed) (legal : IsLegal seed.road) (l : ℕ) (on : l < length seed.road.lanes) where
  abbrev v : ℕ
  v = seed.road.limit

  abbrev cells : ℕ
  cells = length (lane_of seed.road 0)

  abbrev count : ℕ
  count = lane_car_count (lane_of seed.road l)

  abbrev size : length (lane_of seed.road l) ≡ cells
  size = legal.shape.equal l on

  -- a step of the lane after the first `delay` steps
  record LaneStep (delay step : ℕ) (old new : Cells) : Type 0 where
    answer : ℕ → ℕ
    like : IsLegalLike seed.road old
    moves : LaneMoves answer (lane_of old l) (lane_of new l)
    same_count : lane_car_count (lane_of new l) ≡ lane_car_count (lane_of old l)
    full : lane_car_count (lane_of old l) ≡ count
    same_size : length (lane_of old l) ≡ cells
    goes : (x number speed : ℕ) → at (lane_of old l) x ≡ Some (number, speed) → answer x ≡ min v (gap (lane_of old l) x)
    leaping : Leaping v cells count (step - delay) (lane_of old l)

  -- the steps of a run under one rule
  record LaneSteps (rule : Programs) (delay : ℕ) : Type 0 where
    lane_step : (step : ℕ) (new : Cells) (sum : StepTally) → delay ≤ step → (comes : ComesTo seed (always rule) (suc step) new sum) → LaneStep delay step comes.0 new
    road_size : (step : ℕ) (old : Cells) → IsRoadAt seed (always rule) step old → length (lane_of old l) ≡ cells

  -- the lane of the next road
  same_rule : (rule other : Programs) (step : ℕ) (old new : Cells) (tally : StepTally) → in_force (always rule) step ≡ Some other → IsNext other (dice_at seed step) old new tally → IsNext rule (dice_at seed step) old new tally
  same_rule rule other step old new tally under next = subst (λ (r : Programs). IsNext r (dice_at seed step) old new tally) (sym (one_rule rule other step under)) next

  lane_below : (old : Cells) → IsLegalLike seed.road old → l < length old.lanes
  lane_below old like = let lanes = like.same_lanes in omega (arith, on, lanes)

  nasch_steps : (rule : Programs) → IsNasch 0 rule → LaneSteps rule v
  nasch_steps rule is = record {
    lane_step = λ step new sum late comes.
        let old = comes.0 in
        let go = comes.5 in
        let some_limit = legal.shape.limit.some_limit in
        let here = lane_of_run rule seed cells is legal legal.shape.cells.some_cell (cells_suffice seed legal) step old comes.1 comes.4 l on in
        let motion = nasch_moves_by rule seed v is refl (dice_at seed step) old new comes.3 here.like (same_rule rule comes.2 step old new comes.3 go.under go.next) in
        let below = lane_below old here.like in
        let m = motion.moves.each_lane l below in
        let fits = motion.fits.each_lane l below in
        record {
          answer = motion.speeds l;
          like = here.like;
          moves = m;
          same_count = lane_same_count (motion.speeds l) (lane_of old l) (lane_of new l) m (apart_within_gaps (motion.speeds l) (lane_of old l) fits);
          full = here.full;
          same_size = here.way.size;
          goes = ready v step (lane_of old l) (motion.speeds l) some_limit late (here.way.quick (omega (arith, late, some_limit))) (motion.goes l);
          leaping = here.way.leaping late here.full;
        };
    road_size = λ step old here. (lane_of_run rule seed cells is legal legal.shape.cells.some_cell (cells_suffice seed legal) step old here.0 here.1 l on).way.size;
  }

  at_once_steps : (rule : Programs) → MovesBy (at_once_by v) rule seed → LaneSteps rule 0
  at_once_steps rule moves_by = record {
    lane_step = λ step new sum late comes.
        let old = comes.0 in
        let go = comes.5 in
        let here = lane_at_once rule seed cells legal moves_by (cells_suffice seed legal) step old comes.1 comes.4 l on in
        let motion = moves_by (dice_at seed step) old new comes.3 here.like (same_rule rule comes.2 step old new comes.3 go.under go.next) in
        let below = lane_below old here.like in
        let m = motion.moves.each_lane l below in
        let fits = motion.fits.each_lane l below in
        let e : step ≡ step - 0 = omega arith in
        record {
          answer = motion.speeds l;
          like = here.like;
          moves = m;
          same_count = lane_same_count (motion.speeds l) (lane_of old l) (lane_of new l) m (apart_within_gaps (motion.speeds l) (lane_of old l) fits);
          full = here.full;
          same_size = here.way.size;
          goes = motion.goes l;
          leaping = subst (λ k. Leaping v cells count k (lane_of old l)) e (here.way.leaping here.full);
        };
    road_size = λ step old here. (lane_at_once rule seed cells legal moves_by (cells_suffice seed legal) step old here.0 here.1 l on).way.size;
  }

  steps_of : (rule : Programs) (delay : ℕ) → AcceleratesIn v delay rule → LaneSteps rule delay
  steps_of rule delay (inl nasch) = subst (LaneSteps rule) (sym nasch.1) (nasch_steps rule nasch.0)
  steps_of rule delay (inr (inl slow)) = subst (LaneSteps rule) (sym slow.2) (at_once_steps rule (slow_moves_by rule seed slow.0 slow.1))
  steps_of rule delay (inr (inr quick)) = subst (LaneSteps rule) (sym quick.1) (at_once_steps rule (gap_moves_by rule seed quick.0))

  -- after it has relaxed
  relaxed_suffices : (delay step : ℕ) → LaneHasRelaxed seed delay l step → Suffices v cells count (step - delay + 1)
  relaxed_suffices delay step relaxed =
      let whole = lane_taken_or_empty (lane_of seed.road l) in
      let same_size = size in
      let spread = relaxed.to_spread in
      let late = relaxed.to_accelerate in
      let e : step + 1 - delay ≡ step - delay + 1 = omega (arith, late) in
      let f = ap (λ k. v * k) e in
      omega (arith, whole, same_size, spread, f)

  relaxed_later : (delay step k : ℕ) → LaneHasRelaxed seed delay l step → LaneHasRelaxed seed delay l (step + k)
  relaxed_later delay step k relaxed =
      let late = relaxed.to_accelerate in
      let soon = more_suffice v cells count (step - delay + 1) (step + k + 1 - delay) (relaxed_suffices delay step relaxed) (omega (arith, late)) in
      let whole = lane_taken_or_empty (lane_of seed.road l) in
      let same_size = size in
      record { to_accelerate = omega (arith, late); to_spread = omega (arith, soon, whole, same_size) }

  few_cars : IsDilute v (lane_of seed.road l) → suc v * count ≤ cells
  few_cars dilute =
      let same_size = size in
      let e : v + 1 ≡ suc v = omega arith in
      let f = mul_comm (suc v) count ∙ ap (λ k. count * k) (sym e) in
      omega (arith, dilute, same_size, f)

  many_cars : IsCongested v (lane_of seed.road l) → cells ≤ suc v * count
  many_cars congested =
      let same_size = size in
      let e : v + 1 ≡ suc v = omega arith in
      let f = mul_comm (suc v) count ∙ ap (λ k. count * k) (sym e) in
      omega (arith, congested, same_size, f)

  -- the distances of its cars
  go_by_limit : (delay step : ℕ) (old new : Cells) (s : LaneStep delay step old new) → LaneHasRelaxed seed delay l step → IsDilute v (lane_of seed.road l)
      → (x number speed : ℕ) → at (lane_of old l) x ≡ Some (number, speed) → s.answer x ≡ v
  go_by_limit delay step old new s relaxed dilute =
      by_limit v cells count (step - delay) (lane_of old l) s.answer legal.shape.limit.some_limit legal.shape.cells.some_cell s.same_size s.full s.leaping (relaxed_suffices delay step relaxed) s.goes (few_cars dilute)

  go_by_gap : (delay step : ℕ) (old new : Cells) (s : LaneStep delay step old new) → LaneHasRelaxed seed delay l step → IsCongested v (lane_of seed.road l)
      → (x number speed : ℕ) → at (lane_of old l) x ≡ Some (number, speed) → s.answer x ≡ gap (lane_of old l) x
  go_by_gap delay step old new s relaxed congested =
      by_gap v cells count (step - delay) (lane_of old l) s.answer legal.shape.limit.some_limit legal.shape.cells.some_cell s.same_size s.full s.leaping (relaxed_suffices delay step relaxed) s.goes (many_cars congested)

  module _ (rule : Programs) (delay : ℕ) (steps : LaneSteps rule delay) where
    -- one road at a step
    one_road : (step : ℕ) (old new : Cells) → IsRoadAt seed (always rule) step old → IsRoadAt seed (always rule) (step + 0) new → new ≡ old
    one_road step old new first second = let e : step + 0 ≡ step = omega arith in road_at_is_one seed (always rule) step new old (subst (λ k. IsRoadAt seed (always rule) k new) e second) first

    -- k steps
    waves_ahead : (k step : ℕ) (old new : Cells) → length (lane_of old l) ≡ cells → LaneHasRelaxed seed delay l step → IsDilute v (lane_of seed.road l)
        → IsRoadAt seed (always rule) step old → IsRoadAt seed (always rule) (step + k) new → PatternMovesAhead (v * k) (lane_of old l) (lane_of new l)
    waves_ahead zero step old new same relaxed dilute first second =
        let n = length (lane_of old l) in
        let e : v * 0 ≡ 0 = omega arith in
        subst (λ (r : Cells). PatternMovesAhead (v * 0) (lane_of old l) (lane_of r l)) (sym (one_road step old new first second)) (record {
          same_cells = refl;
          moved = λ x low. ap (is_taken (lane_of old l)) (ap (ahead n x) e ∙ ahead_none n x low);
        })
    waves_ahead (suc k) step old new same relaxed dilute first second =
        let n = length (lane_of old l) in
        let e : step + suc k ≡ suc (step + k) = omega arith in
        let here = subst (λ j. IsRoadAt seed (always rule) j new) e second in
        let comes = here.1 in
        let middle = comes.0 in
        let rest = waves_ahead k step old middle same relaxed dilute first (comes.1, comes.4) in
        let later = relaxed_later delay step k relaxed in
        let s = steps.lane_step (step + k) new here.0 later.to_accelerate comes in
        let one = all_ahead s.answer (lane_of middle l) (lane_of new l) s.moves s.same_count v (go_by_limit delay (step + k) middle new s later dilute) in
        let f : v * k + v ≡ v * suc k = (let g = mul-suc v k in omega (arith, g)) in
        record {
          same_cells = one.same_cells ∙ rest.same_cells;
          moved = λ x low.
              let y = ahead n x (v * k) in
              let y_low : y < length (lane_of middle l) = (let b = ahead_below n x (v * k) (omega (arith, low)) in let c = rest.same_cells in omega (arith, b, c)) in
              ap (is_taken (lane_of new l)) (ap (ahead n x) (sym f) ∙ sym (ahead_more n x (v * k) v) ∙ ap (λ j. ahead j y v) (sym rest.same_cells))
              ∙ one.moved y y_low
              ∙ rest.moved x low;
        }

    waves_back : (k step : ℕ) (old new : Cells) → length (lane_of old l) ≡ cells → LaneHasRelaxed seed delay l step → IsCongested v (lane_of seed.road l)
        → IsRoadAt seed (always rule) step old → IsRoadAt seed (always rule) (step + k) new → PatternMovesBack k (lane_of old l) (lane_of new l)
    waves_back zero step old new same relaxed congested first second =
        let n = length (lane_of old l) in
        subst (λ (r : Cells). PatternMovesBack 0 (lane_of old l) (lane_of r l)) (sym (one_road step old new first second)) (record {
          same_cells = refl;
          moved = λ x low. ap (is_taken (lane_of old l)) (sym (ahead_none n x low));
        })
    waves_back (suc k) step old new same relaxed congested first second =
        let n = length (lane_of old l) in
        let e : step + suc k ≡ suc (step + k) = omega arith in
        let here = subst (λ j. IsRoadAt seed (always rule) j new) e second in
        let comes = here.1 in
        let middle = comes.0 in
        let rest = waves_back k step old middle same relaxed congested first (comes.1, comes.4) in
        let later = relaxed_later delay step k relaxed in
        let s = steps.lane_step (step + k) new here.0 later.to_accelerate comes in
        let one = all_back s.answer (lane_of middle l) (lane_of new l) s.moves s.same_count (go_by_gap delay (step + k) middle new s later congested) in
        let f : 1 + k ≡ suc k = omega arith in
        record {
          same_cells = one.same_cells ∙ rest.same_cells;
          moved = λ x low.
              let size_now = rest.same_cells in
              one.moved x (omega (arith, low, size_now))
              ∙ ap (λ j. is_taken (lane_of middle l) (ahead j x 1)) rest.same_cells
              ∙ rest.moved (ahead n x 1) (ahead_below n x 1 (omega (arith, low)))
              ∙ ap (is_taken (lane_of old l)) (ahead_more n x 1 k ∙ ap (ahead n x) f);
        }

pub free_flow_moves_ahead : FreeFlowMovesAhead
free_flow_moves_ahead rule seed delay step k old new l is legal on relaxed dilute roads =
    let steps = steps_of seed legal l on rule delay is in
    waves_ahead seed legal l on rule delay steps k step old new (steps.road_size step old roads.earlier) relaxed dilute roads.earlier roads.later

pub jams_move_back : JamsMoveBack
jams_move_back rule seed delay step k old new l is legal on relaxed congested roads =
    let steps = steps_of seed legal l on rule delay is in
    waves_back seed legal l on rule delay steps k step old new (steps.road_size step old roads.earlier) relaxed congested roads.earlier roads.later

pub pattern_is_periodic : PatternIsPeriodic
pattern_is_periodic rule seed delay step old new l x is legal on relaxed roads low =
    let lane = lane_of seed.road l in
    let n = length lane in
    let v = seed.road.limit in
    let size = legal.shape.equal l on in
    let now = (steps_of seed legal l on rule delay is).road_size step old roads.earlier in
    let here : x < length (lane_of old l) = omega (arith, low, size, now) in
    let same : length (lane_of old l) ≡ n = omega (arith, size, now) in
    elim (cases_lt n (lane_car_count lane * (v + 1))) [
      | inl many ↦
          let back = jams_move_back rule seed delay step n old new l is legal on relaxed (omega (arith, many)) roads in
          back.moved x here ∙ ap (is_taken (lane_of old l)) (ap (λ j. ahead j x n) same ∙ add-mod_right x n ∙ mod-eq_of_lt low)
      | inr few ↦
          let on_ahead = free_flow_moves_ahead rule seed delay step n old new l is legal on relaxed few roads in
          sym (ap (is_taken (lane_of new l)) (ap (λ j. ahead j x (v * n)) same ∙ add-mul-mod_self_right x v n ∙ mod-eq_of_lt low)) ∙ on_ahead.moved x here
    ]

-- one step of a single road
next_step : (seed : Seed) (rule : Programs) (step : ℕ) (new : Cells) → IsRoadAt seed (always rule) (step + 1) new → IsRoadAt seed (always rule) (suc step) new
next_step seed rule step new there = let e : step + 1 ≡ suc step = omega arith in subst (λ k. IsRoadAt seed (always rule) k new) e there

pub acceleration_ends : AccelerationEnds
acceleration_ends rule seed step old new is legal late roads car here =
    let there = next_step seed rule step new roads.later in
    let comes = there.1 in
    let same = road_at_is_one seed (always rule) step comes.0 old (comes.1, comes.4) roads.earlier in
    let P : Cells → Type 0 = λ r. IsAt r car → IsAt new (car_after_motion r car (min r.limit (gap (lane_of r car.lane) car.place))) in
    subst P same (λ stands.
    let l = car.lane in
    let old_on = on_lane comes.0 l car.place (car.number, car.speed) stands in
    let lanes = run_lanes seed (always rule) step comes.0 comes.1 comes.4 in
    let count = lanes.count in
    let s = (nasch_steps seed legal l (omega (arith, old_on, count)) rule is).lane_step step new there.0 late comes in
    let goes : s.answer car.place ≡ min comes.0.limit (gap (lane_of comes.0 l) car.place) = s.goes car.place car.number car.speed stands ∙ ap (λ k. min k (gap (lane_of comes.0 l) car.place)) (sym s.like.same_limit) in
    subst (λ k. IsAt new (car_after_motion comes.0 car k)) goes (s.moves.arrives car.place car.number car.speed stands)) here

pub congested_cars_close_gaps : CongestedCarsCloseGaps
congested_cars_close_gaps rule seed delay step old new car is legal here relaxed congested roads =
    let there = next_step seed rule step new roads.later in
    let comes = there.1 in
    let same = road_at_is_one seed (always rule) step comes.0 old (comes.1, comes.4) roads.earlier in
    let P : Cells → Type 0 = λ r. IsAt r car → IsAt new (car_after_motion r car (gap (lane_of r car.lane) car.place)) in
    subst P same (λ stands.
    let l = car.lane in
    let old_on = on_lane comes.0 l car.place (car.number, car.speed) stands in
    let lanes = run_lanes seed (always rule) step comes.0 comes.1 comes.4 in
    let count = lanes.count in
    let on : l < length seed.road.lanes = omega (arith, old_on, count) in
    let s = (steps_of seed legal l on rule delay is).lane_step step new there.0 relaxed.to_accelerate comes in
    subst (λ k. IsAt new (car_after_motion comes.0 car k)) (go_by_gap seed legal l on delay step comes.0 new s relaxed congested car.place car.number car.speed stands)
    (s.moves.arrives car.place car.number car.speed stands)) here
