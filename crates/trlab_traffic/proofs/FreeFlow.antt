-- Free flow goes on for ever where no moving car brakes by chance, with slow starts too.
use Rattle.std.proofs.Common.{◌≡◌, ℕ, zero, suc, ◌+◌, ◌-◌, ◌*◌, ◌<◌, ◌≤◌, min, Some, None, List, [], ◌∷◌}
use Rattle.std.proofs.Common.{length, get_or, refl, sym, ◌∙◌, ap, subst, inl, inr, arith, mul_comm, mul-suc}
use Rattle.std.proofs.Common.{mul-zero, ◌/◌, ◌^◌, Bool, true, if◌then◌else◌, All, nat_le, sum_by, slice_index}
use Rattle.std.proofs.Common.{le-leb, lt-ltb, ne_eqb, ext_get_or}
use Rattle.std.proofs.lemmas.{Bool.{cases_lt, lt-leb, cases_Bool}, List.{length-map, Sums.sum_by-cons}}
use Rattle.trlab_bounds.specs.declared.programs.TheConstants.{CERTAIN}
use Rattle.trlab_words.{specs.Words.happens_on, proofs.RandomWords.random_words_small}
use Rattle.trlab_road.specs.{declared.car.Car.Car, Cells.{Cell, Cells, IsAt, Lane, at, cars, lane_of}}
use Rattle.trlab_road.specs.{Cells.{IsLegal, standing}, Gaps.{ahead, gap}, Motion.{LaneMoves, Moves}}
use Rattle.trlab_road.proofs.{MotionLaws.{on_lane, one_road_only}, Ring.{car_in, clear_within_gap, inside}}
use Rattle.trlab_road.proofs.StandingOrder.{length-standing_from_lane, standing_cell}
use Rattle.trlab_road.proofs.MotionInOrder.{moves_by}
use Rattle.trlab_rules.specs.Rules.{Programs, IsNasch, IsVdr}
use Rattle.trlab_rules.specs.Published.{safe_speed, brake, vdr_braking_chance, vdr_speed}
use Rattle.trlab_machine.specs.{declared.dice.Dice.Dice, Blocks.words_of}
use Rattle.trlab_step.specs.{declared.tally.StepTally.StepTally, Laws.IsLegalLike, Next.{IsNext, total_speed}}
use Rattle.trlab_step.specs.Published.{AllMoveAhead, car_after_motion}
use Rattle.trlab_step.{specs.Run.{ComesTo, Seed, dice_at, in_force}, proofs.NextLaws.{like_itself, like_next}}
use Rattle.trlab_traffic.specs.{Terms.{rotate_road, rotate_lane}, FlowAndJams.FreeFlowGoesOn}
use Rattle.trlab_traffic.specs.FlowAndJams.{FreeFlowStaysFree, FreeFlowMovesAsOne, IsInFreeFlow, IsStopped}
use Rattle.trlab_traffic.specs.FlowAndJams.{SlowStartsKeepFreeFlow, SlowStartsKeepJams}
use Rattle.trlab_traffic.{specs.FlowAndJams.SlowStartsMoveFreeFlowAsOne, proofs.Lanes.ahead_below}
use Rattle.trlab_traffic.proofs.Lanes.{ahead_once, ahead_swap, clear_is_gap, gap_below, ahead_none}
use Rattle.trlab_traffic.proofs.Steps.{next_legal_like, safe_motion, answered, motion_alone, never}
use Rattle.trlab_traffic.proofs.{Capacities.{distance_counted, distance_uncounted}, Rotation.lane_turned}
use Rattle.trlab_traffic.proofs.Rotation.{length-turned, same_road, turned_at, turned_more, turned_none}

-- the safe speed of a car at the limit, with room for it
at_limit_safe : (limit gap : ℕ) → limit ≤ gap → min (min (limit + 1) limit) gap ≡ limit
at_limit_safe limit gap h = omega (arith, h)

-- a lane on which every car has this much room, and goes this far
module _ (v : ℕ) (answer : ℕ → ℕ) (old new : Lane) (m : LaneMoves answer old new)
    (goes : (x number speed : ℕ) → at old x ≡ Some (number, speed) → answer x ≡ v)
    (room : (x number speed : ℕ) → at old x ≡ Some (number, speed) → v ≤ gap old x) where
  -- the cells ahead of a car are also empty afterwards
  clear_after : (x number before j y : ℕ) → at old x ≡ Some (number, before) → y ≡ ahead (length old) x v → 1 ≤ j → j ≤ v → at new (ahead (length new) y j) ≡ None
  clear_after x number before j y here reach some most = of_cell (at new (ahead (length new) y j)) refl
    where
      low : x < length old
      low = inside old x (number, before) here

      of_cell : (c : Cell) → at new (ahead (length new) y j) ≡ c → at new (ahead (length new) y j) ≡ None
      of_cell None is = is
      of_cell (Some car) is =
          let n = length old in
          let came = m.nothing_else (ahead (length new) y j) car.0 car.1 is in
          let z = came.0 in
          let was = came.1.1.was in
          let there : ahead (length new) y j ≡ ahead n (ahead n x j) v = ap (λ k. ahead k y j) m.same_length ∙ ap (λ k. ahead n k j) reach ∙ ahead_swap n x v j in
          let from : ahead n z v ≡ ahead n (ahead n x j) v = sym (came.1.1.reaches ∙ ap (ahead n z) (goes z car.0 came.1.0 was)) ∙ there in
          let same = ahead_once n z (ahead n x j) v (inside old z (car.0, came.1.0) was) (ahead_below n x j (omega (arith, low))) from in
          let e = sym was ∙ ap (at old) same ∙ (clear_within_gap old x v (room x number before here)).clear j some most in
          absurd cc

  -- so every car has room again
  room_after : (y number speed : ℕ) → at new y ≡ Some (number, speed) → v ≤ gap new y
  room_after y number speed there =
      let came = m.nothing_else y number speed there in
      let x = came.0 in
      let was = came.1.1.was in
      let reach : y ≡ ahead (length old) x v = came.1.1.reaches ∙ ap (ahead (length old) x) (goes x number came.1.0 was) in
      let fits = room x number came.1.0 was in
      let short = gap_below old x x (number, came.1.0) was in
      let size = m.same_length in
      clear_is_gap new y v (omega (arith, fits, short, size)) (record { clear = λ j some most. clear_after x number came.1.0 j y was reach some most })

  -- and has gone this far
  speed_after : (y number speed : ℕ) → at new y ≡ Some (number, speed) → speed ≡ v
  speed_after y number speed there =
      let came = m.nothing_else y number speed there in
      came.1.1.at_speed ∙ goes came.0 number came.1.0 came.1.1.was

  -- and each cell this far ahead has the content of the cell, if all cars went this far
  module _ (fast : (x number speed : ℕ) → at old x ≡ Some (number, speed) → speed ≡ v) where
    cell_ahead : (x : ℕ) → x < length old → at new (ahead (length old) x v) ≡ at old x
    cell_ahead x low = of_cells (at old x) refl (at new (ahead (length old) x v)) refl
      where
        of_cells : (c : Cell) → at old x ≡ c → (d : Cell) → at new (ahead (length old) x v) ≡ d → at new (ahead (length old) x v) ≡ at old x
        of_cells (Some car) was d is =
            subst (λ k. at new (ahead (length old) x k) ≡ Some (car.0, k)) (goes x car.0 car.1 was) (m.arrives x car.0 car.1 was)
            ∙ ap (λ (k : ℕ). Some (car.0, k)) (sym (fast x car.0 car.1 was))
            ∙ sym was
        of_cells None was None is = is ∙ sym was
        of_cells None was (Some car) is =
            let n = length old in
            let came = m.nothing_else (ahead n x v) car.0 car.1 is in
            let z = came.0 in
            let stood = came.1.1.was in
            let from : ahead n z v ≡ ahead n x v = sym (came.1.1.reaches ∙ ap (ahead n z) (goes z car.0 came.1.0 stood)) in
            let e = sym stood ∙ ap (at old) (ahead_once n z x v (inside old z (car.0, came.1.0) stood) low from) ∙ was in
            absurd cc

    turned_back : rotate_lane v new ≡ old
    turned_back =
        ext_get_or None (rotate_lane v new) old (length-turned v new ∙ m.same_length) (λ x below.
        let size = m.same_length in
        let low : x < length new = subst (λ k. x < k) (length-turned v new) below in
        turned_at v new x low ∙ ap (λ k. at new (ahead k x v)) size ∙ cell_ahead x (omega (arith, low, size)))

-- the safe speed of a car in free flow
pub free_speed : (road : Cells) (car : Car) → IsInFreeFlow road → IsAt road car → safe_speed car.speed road.limit (gap (lane_of road car.lane) car.place) ≡ road.limit
free_speed road car free here =
    ap (λ (speed : ℕ). min (min (speed + 1) road.limit) (gap (lane_of road car.lane) car.place)) (free.at_limit car here)
    ∙ at_limit_safe road.limit (gap (lane_of road car.lane) car.place) (free.room car here)

-- a motion in which each car moves at the limit
pub record FreeMotion (old new : Cells) : Type 0 where
  pub speeds : ℕ → ℕ → ℕ
  pub goes : (car : Car) → IsAt old car → speeds car.lane car.place ≡ old.limit
  pub moves : Moves speeds old new

pub free_after : (old new : Cells) → FreeMotion old new → IsInFreeFlow old → IsInFreeFlow new
free_after old new motion free = record {
  at_limit = λ car here.
      let l = car.lane in
      let on = lane_below car here in
      speed_after old.limit (motion.speeds l) (lane_of old l) (lane_of new l) (motion.moves.each_lane l on)
      (λ x number speed there. motion.goes (car_in l x number speed) there) (λ x number speed there. free.room (car_in l x number speed) there)
      car.place car.number car.speed here
      ∙ sym motion.moves.same_limit;
  room = λ car here.
      let l = car.lane in
      let on = lane_below car here in
      subst (λ v. v ≤ gap (lane_of new l) car.place) (sym motion.moves.same_limit)
      (room_after old.limit (motion.speeds l) (lane_of old l) (lane_of new l) (motion.moves.each_lane l on)
      (λ x number speed there. motion.goes (car_in l x number speed) there) (λ x number speed there. free.room (car_in l x number speed) there)
      car.place car.number car.speed here);
}
  where
    lane_below : (car : Car) → IsAt new car → car.lane < length old.lanes
    lane_below car here =
        let on = on_lane new car.lane car.place (car.number, car.speed) here in
        let size = motion.moves.same_lanes in
        omega (arith, on, size)

-- the road after it, rotated by the limit, is the road before it
pub free_back : (old new : Cells) → FreeMotion old new → IsInFreeFlow old → rotate_road old.limit new ≡ old
free_back old new motion free =
    same_road (rotate_road old.limit new) old motion.moves.same_limit (length-map new.lanes (rotate_lane old.limit) ∙ motion.moves.same_lanes) (λ l below.
    let size = length-map new.lanes (rotate_lane old.limit) in
    let same = motion.moves.same_lanes in
    lane_turned old.limit new l
    ∙ turned_back old.limit (motion.speeds l) (lane_of old l) (lane_of new l) (motion.moves.each_lane l (omega (arith, below, size, same)))
    (λ x number speed there. motion.goes (car_in l x number speed) there) (λ x number speed there. free.room (car_in l x number speed) there)
    (λ x number speed there. free.at_limit (car_in l x number speed) there))

free_go : (old new : Cells) → FreeMotion old new → AllMoveAhead (λ car. old.limit) old new
free_go old new motion car here =
    let l = car.lane in
    let on = on_lane old l car.place (car.number, car.speed) here in
    subst (λ (v : ℕ). IsAt new (car_after_motion old car v)) (motion.goes car here)
    ((motion.moves.each_lane l on).arrives car.place car.number car.speed here)

free_motion : (rule : Programs) (dice : Dice) (old new : Cells) (tally : StepTally) → IsNasch 0 rule → IsLegal old → IsInFreeFlow old → IsNext rule dice old new tally → FreeMotion old new
free_motion rule dice old new tally is legal free next =
    let motion = safe_motion rule dice old new tally is legal next in
    record { speeds = motion.speeds; goes = λ car here. motion.safe car here ∙ free_speed old car free here; moves = motion.moves }

pub free_flow_goes_on : FreeFlowGoesOn
free_flow_goes_on rule dice old new tally is legal free next =
    let motion = free_motion rule dice old new tally is legal free next in
    (free_go old new motion, free_after old new motion free)

-- cars of one speed
pub sum_by-same : (f : Car → ℕ) (v : ℕ) (xs : List Car) → All (λ car. f car ≡ v) xs → sum_by f xs ≡ length xs * v
sum_by-same f v [] all = omega arith
sum_by-same f v (x ∷ xs) all =
    let first : f x ≡ v = all 0 x (omega arith) in
    let rest = sum_by-same f v xs (λ k d below. all (suc k) d (omega arith)) in
    let split = sum_by-cons f x xs in
    omega (arith, first, rest, split)

pub free_total : (road : Cells) → IsInFreeFlow road → total_speed road ≡ road.limit * cars road
free_total road free =
    let count = length-standing_from_lane 0 road.lanes in
    sum_by-same (λ (car : Car). car.speed) road.limit (standing road)
    (λ k d below. free.at_limit (get_or (standing road) k d) (standing_cell road k d (omega (arith, below, count))))
    ∙ ap (λ k. k * road.limit) count ∙ mul_comm (cars road) road.limit

-- a sheet of one rule has it in force at each step
pub in_force_one : (rule : Programs) (step : ℕ) → in_force ((0, rule) ∷ []) step ≡ Some rule
in_force_one rule step = rw (le-leb 0 step (omega arith)) refl

pub one_rule : (rule other : Programs) (step : ℕ) → in_force ((0, rule) ∷ []) step ≡ Some other → rule ≡ other
one_rule rule other step is = let e = sym (in_force_one rule step) ∙ is in cc

-- a run in free flow
pub record FreelyOn (seed : Seed) (step : ℕ) (road : Cells) (sum : StepTally) : Type 0 where
  like : IsLegalLike seed.road road
  pub free : IsInFreeFlow road
  pub as_one : rotate_road (seed.road.limit * step) road ≡ seed.road
  pub gone : sum.distance ≡ (step - seed.warm) * (seed.road.limit * cars seed.road)

pub one_more : (m n most step warm : ℕ) → m ≡ (step - warm) * most → n ≡ most → warm ≤ step → m + n ≡ (suc step - warm) * most
one_more m n most step warm before now counted =
    let e : suc step - warm ≡ suc (step - warm) = omega arith in
    rw e (omega (arith, before, now))

none_more : (m most step warm : ℕ) → m ≡ (step - warm) * most → step < warm → m ≡ (suc step - warm) * most
none_more m most step warm before early =
    let e : suc step - warm ≡ step - warm = omega arith in
    rw e before

none_yet : (most warm : ℕ) → 0 ≡ (0 - warm) * most
none_yet most warm = let e : 0 - warm ≡ 0 = omega arith in rw e (omega arith)

-- under a rule by which free flow continues
pub run_freely : (rule : Programs) (seed : Seed) (step : ℕ) (road : Cells) (sum : StepTally)
    → ((dice : Dice) (old new : Cells) (tally : StepTally) → IsLegal old → IsInFreeFlow old → IsNext rule dice old new tally → FreeMotion old new)
    → IsLegal seed.road → IsInFreeFlow seed.road → ComesTo seed ((0, rule) ∷ []) step road sum → FreelyOn seed step road sum
run_freely rule seed zero road sum moves legal free comes = record {
  like = subst (IsLegalLike seed.road) (sym comes.1) (like_itself seed.road legal);
  free = subst IsInFreeFlow (sym comes.1) free;
  as_one = ap (rotate_road (seed.road.limit * 0)) comes.1 ∙ ap (λ k. rotate_road k seed.road) (mul-zero seed.road.limit) ∙ turned_none seed.road;
  gone = subst (λ (t : StepTally). t.distance ≡ (0 - seed.warm) * (seed.road.limit * cars seed.road)) (sym comes.2) (none_yet (seed.road.limit * cars seed.road) seed.warm);
}
run_freely rule seed (suc step) road sum moves legal free comes =
    let before = comes.0 in
    let so_far = comes.1 in
    let tally = comes.3 in
    let on = comes.5 in
    let way = run_freely rule seed step before so_far moves legal free comes.4 in
    let same = one_rule rule comes.2 step on.under in
    let next = subst (λ (r : Programs). IsNext r (dice_at seed step) before road tally) (sym same) on.next in
    let like = like_next seed.road before road way.like (next_legal_like rule (dice_at seed step) before road tally way.like.legal next) in
    let motion = moves (dice_at seed step) before road tally way.like.legal way.free next in
    let again = free_after before road motion way.free in
    let v = seed.road.limit in
    let most : road.limit * cars road ≡ seed.road.limit * cars seed.road = ap (λ k. k * cars road) like.same_limit ∙ ap (λ k. seed.road.limit * k) like.same_count in
    let now : tally.distance ≡ seed.road.limit * cars seed.road = next.1.distance ∙ free_total road again ∙ most in
    record {
      like = like;
      free = again;
      as_one = ap (λ k. rotate_road k road) (mul-suc v step)
          ∙ sym (turned_more (v * step) v road)
          ∙ ap (rotate_road (v * step)) (ap (λ k. rotate_road k road) (sym way.like.same_limit) ∙ free_back before road motion way.free)
          ∙ way.as_one;
      gone = elim (cases_lt step seed.warm) [
        | inl early ↦
            distance_uncounted (nat_le seed.warm step) sum so_far tally on.counted (lt-leb seed.warm step early)
            ∙ none_more so_far.distance (seed.road.limit * cars seed.road) step seed.warm way.gone early
        | inr late ↦
            distance_counted (nat_le seed.warm step) sum so_far tally on.counted (le-leb seed.warm step late)
            ∙ one_more so_far.distance tally.distance (seed.road.limit * cars seed.road) step seed.warm way.gone now late
      ];
    }

nasch_freely : (rule : Programs) (seed : Seed) (step : ℕ) (road : Cells) (sum : StepTally) → IsNasch 0 rule → IsLegal seed.road → IsInFreeFlow seed.road → ComesTo seed ((0, rule) ∷ []) step road sum → FreelyOn seed step road sum
nasch_freely rule seed step road sum is =
    run_freely rule seed step road sum (λ dice old new tally fine flows next. free_motion rule dice old new tally is fine flows next)

pub free_flow_stays_free : FreeFlowStaysFree
free_flow_stays_free rule seed step road sum is legal free comes =
    let way = nasch_freely rule seed step road sum is legal free comes in
    (way.free, way.gone)

pub free_flow_turns : FreeFlowMovesAsOne
free_flow_turns rule seed step road sum is legal free comes = (nasch_freely rule seed step road sum is legal free comes).as_one

-- Slow starts keep free flow, and keep jams.

-- the braking probability of a moving car
moving_chance : (p p0 speed limit : ℕ) → 1 ≤ limit → speed ≡ limit → vdr_braking_chance p p0 speed ≡ p
moving_chance p p0 speed limit some fast = ap (λ (b : Bool). if b then p0 else p) (ne_eqb speed 0 (λ e. omega (arith, e, some, fast)))

slow_free_motion : (p0 : ℕ) (rule : Programs) (dice : Dice) (old new : Cells) (tally : StepTally) → IsVdr 0 p0 rule → IsLegal old → IsInFreeFlow old → IsNext rule dice old new tally → FreeMotion old new
slow_free_motion p0 rule dice old new tally is legal free next =
    let phase = motion_alone rule dice old new tally is.change next in
    record {
      speeds = phase.0;
      goes = λ car here.
          let word = slice_index (words_of dice car.number) 0 in
          let safe = safe_speed car.speed old.limit (gap (lane_of old car.lane) car.place) in
          answered (vdr_speed 0 p0) rule.motion dice old phase.0 is.motion.moves legal phase.1 car here
          ∙ ap (λ (chance : ℕ). brake (happens_on chance word) safe) (moving_chance 0 p0 car.speed old.limit legal.shape.limit.some_limit (free.at_limit car here))
          ∙ ap (λ (b : Bool). brake b safe) (never word)
          ∙ free_speed old car free here;
      moves = phase.2;
    }

vdr_freely : (p0 : ℕ) (rule : Programs) (seed : Seed) (step : ℕ) (road : Cells) (sum : StepTally) → IsVdr 0 p0 rule → IsLegal seed.road → IsInFreeFlow seed.road → ComesTo seed ((0, rule) ∷ []) step road sum → FreelyOn seed step road sum
vdr_freely p0 rule seed step road sum is =
    run_freely rule seed step road sum (λ dice old new tally fine flows next. slow_free_motion p0 rule dice old new tally is fine flows next)

pub slow_starts_keep_free_flow : SlowStartsKeepFreeFlow
slow_starts_keep_free_flow p0 rule seed step road sum is legal free comes =
    let way = vdr_freely p0 rule seed step road sum is legal free comes in
    (way.free, way.gone)

pub slow_starts_turn_free_flow : SlowStartsMoveFreeFlowAsOne
slow_starts_turn_free_flow p0 rule seed step road sum is legal free comes = (vdr_freely p0 rule seed step road sum is legal free comes).as_one

-- an event of probability 1 happens on each word
always : (word : ℕ) → word < 2 ^ 32 → happens_on CERTAIN word ≡ true
always word small = lt-ltb (word / 2) CERTAIN (omega (arith, small))

-- a car that is stopped and brakes remains stopped
stays_stopped : (limit gap : ℕ) → min (min (0 + 1) limit) gap - 1 ≡ 0
stays_stopped limit gap = omega arith

-- a motion in which no car moves
abbrev none_moves : ℕ → ℕ → ℕ
none_moves l x = 0

nobody_moves : (road : Cells) → IsStopped road → Moves none_moves road road
nobody_moves road still = record {
  same_limit = refl;
  same_lanes = refl;
  each_lane = λ l on. record {
    same_length = refl;
    arrives = λ x number speed here.
        let zeroth = still.stopped (car_in l x number speed) here in
        subst (λ k. at (lane_of road l) k ≡ Some (number, 0)) (sym (ahead_none (length (lane_of road l)) x (inside (lane_of road l) x (number, speed) here)))
        (subst (λ v. at (lane_of road l) x ≡ Some (number, v)) zeroth here);
    nothing_else = λ y number speed there. (
      y,
      (
        speed,
        record {
          was = there;
          reaches = sym (ahead_none (length (lane_of road l)) y (inside (lane_of road l) y (number, speed) there));
          at_speed = still.stopped (car_in l y number speed) there;
        },
      ),
    );
  };
}

-- a road of stopped cars is its own next road
step_stays_stopped : (p : ℕ) (rule : Programs) (dice : Dice) (old new : Cells) (tally : StepTally) → IsVdr p CERTAIN rule → IsLegal old → IsStopped old → IsNext rule dice old new tally → new ≡ old
step_stays_stopped p rule dice old new tally is legal still next =
    let phase = motion_alone rule dice old new tally is.change next in
    let slow : (car : Car) → IsAt old car → phase.0 car.lane car.place ≡ 0 = λ car here.
    let word = slice_index (words_of dice car.number) 0 in
    let g = gap (lane_of old car.lane) car.place in
    answered (vdr_speed p CERTAIN) rule.motion dice old phase.0 is.motion.moves legal phase.1 car here
    ∙ ap (λ (speed : ℕ). brake (happens_on (vdr_braking_chance p CERTAIN speed) word) (safe_speed speed old.limit g)) (still.stopped car here)
    ∙ ap (λ (b : Bool). brake b (safe_speed 0 old.limit g)) (always word (random_words_small dice.key dice.road car.number dice.step 0))
    ∙ stays_stopped old.limit g in
    one_road_only none_moves old new old (moves_by phase.0 none_moves old new slow phase.2) (nobody_moves old still)

no_speed : (road : Cells) → IsStopped road → total_speed road ≡ 0
no_speed road still =
    let count = length-standing_from_lane 0 road.lanes in
    sum_by-same (λ (car : Car). car.speed) 0 (standing road) (λ k d below. still.stopped (get_or (standing road) k d) (standing_cell road k d (omega (arith, below, count))))
    ∙ mul-zero (length (standing road))

-- a run whose cars stay stopped
record StaysStopped (seed : Seed) (road : Cells) (sum : StepTally) : Type 0 where
  same : road ≡ seed.road
  none : sum.distance ≡ 0

run_stays_stopped : (p : ℕ) (rule : Programs) (seed : Seed) (step : ℕ) (road : Cells) (sum : StepTally) → IsVdr p CERTAIN rule → IsLegal seed.road → IsStopped seed.road → ComesTo seed ((0, rule) ∷ []) step road sum → StaysStopped seed road sum
run_stays_stopped p rule seed zero road sum is legal still comes = record { same = comes.1; none = ap (λ (t : StepTally). t.distance) comes.2 }
run_stays_stopped p rule seed (suc step) road sum is legal still comes =
    let before = comes.0 in
    let so_far = comes.1 in
    let tally = comes.3 in
    let on = comes.5 in
    let way = run_stays_stopped p rule seed step before so_far is legal still comes.4 in
    let same = one_rule rule comes.2 step on.under in
    let ruled = subst (λ (r : Programs). IsNext r (dice_at seed step) before road tally) (sym same) on.next in
    let next = subst (λ (now : Cells). IsNext rule (dice_at seed step) now road tally) way.same ruled in
    let same_road = step_stays_stopped p rule (dice_at seed step) seed.road road tally is legal still next in
    let gone : tally.distance ≡ 0 = next.1.distance ∙ ap total_speed same_road ∙ no_speed seed.road still in
    let so_far_none = way.none in
    record {
      same = same_road;
      none = elim (cases_Bool (nat_le seed.warm step)) [
        | inl yes_counted ↦ distance_counted (nat_le seed.warm step) sum so_far tally on.counted yes_counted ∙ (let e : so_far.distance + tally.distance ≡ 0 = omega (arith, gone, so_far_none) in e)
        | inr uncounted ↦ distance_uncounted (nat_le seed.warm step) sum so_far tally on.counted uncounted ∙ so_far_none
      ];
    }

pub slow_starts_keep_jams : SlowStartsKeepJams
slow_starts_keep_jams p rule seed step road sum is legal still comes =
    let way = run_stays_stopped p rule seed step road sum is legal still comes in
    (way.same, way.none)
