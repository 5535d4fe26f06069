-- The minimum principle: the distance of each car is the smallest of the bounds that the cars ahead of it
-- set.
use Rattle.std.proofs.Common.{◌≡◌, ℕ, zero, suc, ◌+◌, ◌-◌, ◌*◌, ◌<◌, ◌≤◌, min, Some, length, refl, sym, ◌∙◌}
use Rattle.std.proofs.Common.{ap, subst, inl, inr, arith, mul-suc, mul-zero, slice_index}
use Rattle.std.proofs.lemmas.Bool.{cases_lt}
use Rattle.trlab_words.specs.Words.{happens_on}
use Rattle.trlab_machine.specs.Blocks.{words_of}
use Rattle.trlab_road.specs.{declared.car.Car.Car, Cells.{Cells, IsAt, Lane, cars, lane_of, IsLegal}}
use Rattle.trlab_road.{specs.Gaps.{gap, next_place}, proofs.MotionLaws.on_lane}
use Rattle.trlab_rules.specs.{Rules.{ComputesSpeed, Programs, IsNasch}, Published.{nasch_speed, safe_speed}}
use Rattle.trlab_step.specs.{Answers.AnswersSpeed, declared.tally.StepTally.StepTally, Laws.IsLegalLike}
use Rattle.trlab_step.specs.Run.{ComesTo, IsRoadAt, IsSheet, Seed, Sheet, dice_at, in_force, no_tally}
use Rattle.trlab_step.proofs.RunLaws.{force_all, road_at_is_one}
use Rattle.trlab_traffic.specs.Terms.{EachRule, StaysInLane, always}
use Rattle.trlab_traffic.{specs.Following.HasGone, proofs.Fastest.{always_so, answer_is, no_brake}}
use Rattle.trlab_traffic.{specs.Comparison.ReachesSpeedAtOnce, proofs.Relaxation.{cells_suffice, lane_of_run}}
use Rattle.trlab_traffic.specs.Waves.{MinimumPrinciple, MinimumPrincipleGivesDistance, MinimumPrincipleLater}
use Rattle.trlab_traffic.specs.Waves.{NobodyBeatsMinimumPrinciple, Rule184MinimumPrinciple, gaps_ahead}
use Rattle.trlab_traffic.{specs.Waves.{newell_distance, smallest_to, AcceleratesIn}, proofs.FreeFlow.one_rule}
use Rattle.trlab_traffic.proofs.{Steps.{answers_fit, motion_alone, never}, Courses.{choose, sum_of_standing}}
use Rattle.trlab_traffic.proofs.Courses.{Course, Start, course_of_start, course_on, gap_of, moved, started}
use Rattle.trlab_traffic.proofs.Courses.{within_gap, each_car_has_gone, go_distance, gone_is_one, run_like}

-- the minimum of some numbers is at most each of them
pub smallest_least : (f : ℕ → ℕ) (n j : ℕ) → j ≤ n → smallest_to n f ≤ f j
smallest_least f zero j low = let none : 0 ≡ j = omega (arith, low) in let e = ap f none in omega (arith, e)
smallest_least f (suc n) j low =
    elim (cases_lt n j) [
      | inl last ↦ let same : suc n ≡ j = omega (arith, low, last) in let e = ap f same in omega (arith, e)
      | inr before ↦ let rest = smallest_least f n j before in omega (arith, rest)
    ]

-- and equals one of them
record Attains (f : ℕ → ℕ) (n j : ℕ) : Type 0 where
  low : j ≤ n
  is : smallest_to n f ≡ f j

attained : (f : ℕ → ℕ) (n : ℕ) → (j : ℕ) × Attains f n j
attained f zero = (0, record { low = omega arith; is = refl })
attained f (suc n) =
    elim (cases_lt (smallest_to n f) (f (suc n))) [
      | inl less ↦
          let from = attained f n in
          let low = from.1.low in
          let is = from.1.is in
          (from.0, record { low = omega (arith, low); is = (let k : min (smallest_to n f) (f (suc n)) ≡ f from.0 = omega (arith, less, is) in k) })
      | inr more ↦ (suc n, record { low = omega arith; is = (let k : min (smallest_to n f) (f (suc n)) ≡ f (suc n) = omega (arith, more) in k) })
    ]

-- the bounds of the cars ahead, one step later
later_bound : (v t j : ℕ) → j ≤ t → v * (suc t - j) ≡ v * (t - j) + v
later_bound v t j low =
    let e : suc t - j ≡ suc (t - j) = omega (arith, low) in
    let more = mul-suc v (t - j) in
    ap (λ k. v * k) e ∙ (let k : v * suc (t - j) ≡ v * (t - j) + v = omega (arith, more) in k)

-- a car goes as far as it can at the limit, or up to the next car's former cell
pub newell_on : (limit : ℕ) (lane : Lane) (x t : ℕ) → newell_distance limit lane x (suc t) ≡ min (newell_distance limit lane x t + limit) (gap lane x + newell_distance limit lane (next_place lane x) t)
newell_on limit lane x t =
    let p = next_place lane x in
    let g = gap lane x in
    let own : ℕ → ℕ = λ j. limit * (t - j) + gaps_ahead lane x j in
    let next : ℕ → ℕ = λ j. limit * (t - j) + gaps_ahead lane p j in
    let all : ℕ → ℕ = λ j. limit * (suc t - j) + gaps_ahead lane x j in
    let a = attained own t in
    let b = attained next t in
    let c = attained all (suc t) in
    let a_is = a.1.is in
    let b_is = b.1.is in
    let c_is = c.1.is in
    let own_later = later_bound limit t a.0 a.1.low in
    let under_own = smallest_least all (suc t) a.0 (let low = a.1.low in omega (arith, low)) in
    let b_low = b.1.low in
    let same : suc t - suc b.0 ≡ t - b.0 = omega (arith, b_low) in
    let next_later = ap (λ k. limit * k) same in
    let under_next = smallest_least all (suc t) (suc b.0) (omega (arith, b_low)) in
    let upper : smallest_to (suc t) all ≤ min (smallest_to t own + limit) (g + smallest_to t next) = omega (arith, a_is, b_is, own_later, under_own, next_later, under_next) in
    let lower : min (smallest_to t own + limit) (g + smallest_to t next) ≤ smallest_to (suc t) all = (elim (cases_lt t c.0) [
      | inl last ↦
          let low = c.1.low in
          let end : c.0 ≡ suc t = omega (arith, last, low) in
          let e = c_is ∙ ap all end in
          let past = smallest_least next t t (omega arith) in
          let none : suc t - suc t ≡ 0 = omega arith in
          let none_too : t - t ≡ 0 = omega arith in
          let f = ap (λ k. limit * k) none in
          let h = ap (λ k. limit * k) none_too in
          omega (arith, e, past, f, h)
      | inr before ↦
          let later = later_bound limit t c.0 before in
          let past = smallest_least own t c.0 before in
          omega (arith, c_is, later, past)
    ]) in
    omega (arith, upper, lower)

newell_none : (limit : ℕ) (lane : Lane) (x : ℕ) → newell_distance limit lane x 0 ≡ 0
newell_none limit lane x =
    let none : 0 - 0 ≡ 0 = omega arith in
    let e = ap (λ k. limit * k) none ∙ mul-zero limit in
    omega (arith, e)

-- the cars of a run from some step on: no car has gone further, and if cars move by the limit or their
-- gaps, none has gone less far
module _ (seed : Seed) (legal : IsLegal seed.road) (start : Start seed.road) (sheet : Sheet) (stays : EachRule StaysInLane sheet)
    (begin : ℕ) (first : Cells) (first_is : IsRoadAt seed sheet begin first) (car : ℕ → Car) (far : ℕ → ℕ)
    (course : Course seed sheet start.next (λ i. gap_of seed.road (start.car i)) begin first car far) (Quick : Type 0)
    (quick : Quick → (step : ℕ) (road : Cells) (rule : Programs) (c : Car) (v : ℕ) → begin ≤ step → IsRoadAt seed sheet step road → in_force sheet step ≡ Some rule
    → IsLegalLike seed.road road → IsAt road c → AnswersSpeed rule.motion (dice_at seed step) road c v → min seed.road.limit (gap_of road c) ≤ v) where
  abbrev newell : ℕ → ℕ → ℕ
  newell i t = newell_distance seed.road.limit (lane_of first (car i).lane) (car i).place t

  abbrev room : ℕ → ℕ
  room i = gap_of seed.road (start.car i)

  next_newell : (i t : ℕ) → i < cars seed.road → newell i (suc t) ≡ min (newell i t + seed.road.limit) (gap_of first (car i) + newell (start.next i) t)
  next_newell i t low =
      let v = seed.road.limit in
      let l = (car i).lane in
      let j = start.next i in
      let follows = course.follows i low in
      let there : newell_distance v (lane_of first l) (next_place (lane_of first l) (car i).place) t ≡ newell j t =
      ap (λ x. newell_distance v (lane_of first l) x t) (sym follows.ahead) ∙ ap (λ k. newell_distance v (lane_of first k) (car j).place t) (sym follows.same_lane) in
      newell_on v (lane_of first l) (car i).place t ∙ ap (λ k. min (newell i t + v) (gap_of first (car i) + k)) there

  record Along (k : ℕ) (road : Cells) : Type 0 where
    now : ℕ → Car
    gone : ℕ → ℕ
    on_course : Course seed sheet start.next room (begin + k) road now gone
    most : (i : ℕ) → i < cars seed.road → gone i ≤ far i + newell i k
    least : Quick → (i : ℕ) → i < cars seed.road → far i + newell i k ≤ gone i

  along : (k : ℕ) (road : Cells) → IsRoadAt seed sheet (begin + k) road → Along k road
  along zero road is =
      let e : begin + 0 ≡ begin = omega arith in
      let same = road_at_is_one seed sheet begin road first (subst (λ j. IsRoadAt seed sheet j road) e is) first_is in
      let begun : Along 0 first = record {
        now = car;
        gone = far;
        on_course = subst (λ j. Course seed sheet start.next room j first car far) (sym e) course;
        most = λ i low. omega arith;
        least = λ fast i low. let none = newell_none seed.road.limit (lane_of first (car i).lane) (car i).place in omega (arith, none);
      } in
      subst (Along 0) (sym same) begun
  along (suc k) road is =
      let step = begin + k in
      let e : begin + suc k ≡ suc step = omega arith in
      let here = subst (λ j. IsRoadAt seed sheet j road) e is in
      let comes = here.1 in
      let old = comes.0 in
      let rule = comes.2 in
      let go = comes.5 in
      let old_is : IsRoadAt seed sheet step old = (comes.1, comes.4) in
      let a = along k old old_is in
      let like = run_like seed sheet step old comes.1 legal comes.4 in
      let phase = motion_alone rule (dice_at seed step) old road comes.3 (force_all StaysInLane sheet step rule stays go.under) go.next in
      let speeds = phase.0 in
      let fits = answers_fit rule.motion (dice_at seed step) old speeds phase.1 in
      let v : ℕ → ℕ = λ i. speeds (a.now i).lane (a.now i).place in
      let on = course_on old road speeds phase.2 fits seed sheet start.next room step a.now a.gone a.on_course start.low_next here in
      record {
        now = λ i. moved old road speeds phase.2 fits (a.now i);
        gone = λ i. a.gone i + v i;
        on_course = subst (λ j. Course seed sheet start.next room j road (λ i. moved old road speeds phase.2 fits (a.now i)) (λ i. a.gone i + v i)) (sym e) on;
        most = λ i low.
            let stands = a.on_course.stands i low in
            let by_limit = fits.within_limit (a.now i) stands in
            let limit = like.same_limit in
            let by_gap = within_gap old road speeds phase.2 fits (a.now i) stands in
            let own = a.most i low in
            let next = a.most (start.next i) (start.low_next i low) in
            let balance = a.on_course.balance i low in
            let balance_first = course.balance i low in
            let more = next_newell i k low in
            omega (arith, by_limit, limit, by_gap, own, next, balance, balance_first, more);
        least = λ fast i low.
            let stands = a.on_course.stands i low in
            let goes = quick fast step old rule (a.now i) (v i) (omega arith) old_is go.under like stands (phase.1.each (a.now i) stands) in
            let own = a.least fast i low in
            let next = a.least fast (start.next i) (start.low_next i low) in
            let balance = a.on_course.balance i low in
            let balance_first = course.balance i low in
            let more = next_newell i k low in
            omega (arith, goes, own, next, balance, balance_first, more);
      }

-- a run has a start
sheet_is : (seed : Seed) (sheet : Sheet) (step : ℕ) (road : Cells) (sum : StepTally) → ComesTo seed sheet step road sum → IsSheet sheet
sheet_is seed sheet zero road sum comes = comes.0
sheet_is seed sheet (suc step) road sum comes = sheet_is seed sheet step comes.0 comes.1 comes.4

at_start : (seed : Seed) (sheet : Sheet) (step : ℕ) (road : Cells) → IsRoadAt seed sheet step road → IsRoadAt seed sheet 0 seed.road
at_start seed sheet step road is = (no_tally, (sheet_is seed sheet step road is.0 is.1, refl, refl))

-- the cars of a run at a step
pub record CarsAt (seed : Seed) (start : Start seed.road) (sheet : Sheet) (step : ℕ) (road : Cells) : Type 0 where
  pub car : ℕ → Car
  pub far : ℕ → ℕ
  pub course : Course seed sheet start.next (λ i. gap_of seed.road (start.car i)) step road car far

pub cars_at : (seed : Seed) → IsLegal seed.road → (start : Start seed.road) (sheet : Sheet) → EachRule StaysInLane sheet → (step : ℕ) (road : Cells) → IsRoadAt seed sheet step road → CarsAt seed start sheet step road
cars_at seed legal start sheet stays step road is =
    let e : 0 + step ≡ step = omega arith in
    let a = along seed legal start sheet stays 0 seed.road (at_start seed sheet step road is) start.car (λ i. 0) (course_of_start seed sheet start) ⊥
    (λ none. absurd none) step road (subst (λ j. IsRoadAt seed sheet j road) (sym e) is) in
    record { car = a.now; far = a.gone; course = subst (λ j. Course seed sheet start.next (λ i. gap_of seed.road (start.car i)) j road a.now a.gone) e a.on_course }

-- the distance of a car in k steps from some step on
module _ (seed : Seed) (legal : IsLegal seed.road) (sheet : Sheet) (stays : EachRule StaysInLane sheet) (begin : ℕ) (Quick : Type 0)
    (quick : Quick → (step : ℕ) (road : Cells) (rule : Programs) (c : Car) (v : ℕ) → begin ≤ step → IsRoadAt seed sheet step road → in_force sheet step ≡ Some rule
    → IsLegalLike seed.road road → IsAt road c → AnswersSpeed rule.motion (dice_at seed step) road c v → min seed.road.limit (gap_of road c) ≤ v) where
  record Principle (first : Cells) (car : Car) (k far more : ℕ) : Type 0 where
    most : more ≤ far + newell_distance seed.road.limit (lane_of first car.lane) car.place k
    least : Quick → far + newell_distance seed.road.limit (lane_of first car.lane) car.place k ≤ more

  principle : (first road : Cells) (car : Car) (k far more : ℕ) → IsRoadAt seed sheet begin first → IsAt first car → IsRoadAt seed sheet (begin + k) road
      → HasGone seed sheet begin car.number far → HasGone seed sheet (begin + k) car.number more → Principle first car k far more
  principle first road car k far more first_is here is gone gone_on =
      let start = started seed.road legal in
      let n = car.number in
      let cars_now = cars_at seed legal start sheet stays begin first first_is in
      let a = along seed legal start sheet stays begin first first_is cars_now.car cars_now.far cars_now.course Quick quick k road is in
      let like = run_like seed sheet begin first first_is.0 legal first_is.1 in
      let count = like.same_count in
      let below = like.legal.numbered car here in
      let low : n < cars seed.road = omega (arith, count, below) in
      let before = gone_is_one seed sheet begin n far (cars_now.far n) legal gone (cars_now.course.gone n low) in
      let after = gone_is_one seed sheet (begin + k) n more (a.gone n) legal gone_on (a.on_course.gone n low) in
      let v = seed.road.limit in
      let own = cars_now.car n in
      let same = like.legal.once own car (cars_now.course.stands n low) here (cars_now.course.numbered n low) in
      let place : newell_distance v (lane_of first own.lane) own.place k ≡ newell_distance v (lane_of first car.lane) car.place k =
      ap (λ l. newell_distance v (lane_of first l) own.place k) same.0 ∙ ap (λ x. newell_distance v (lane_of first car.lane) x k) same.1 in
      record {
        most = (let m = a.most n low in omega (arith, m, before, after, place));
        least = λ fast. let m = a.least fast n low in omega (arith, m, before, after, place);
      }

-- from the start on
record FromStart (seed : Seed) (car : Car) (step far : ℕ) (Quick : Type 0) : Type 0 where
  most : far ≤ newell_distance seed.road.limit (lane_of seed.road car.lane) car.place step
  least : Quick → newell_distance seed.road.limit (lane_of seed.road car.lane) car.place step ≤ far

from_start : (seed : Seed) → IsLegal seed.road → (sheet : Sheet) → EachRule StaysInLane sheet → (Quick : Type 0)
    → (Quick → (step : ℕ) (road : Cells) (rule : Programs) (c : Car) (v : ℕ) → 0 ≤ step → IsRoadAt seed sheet step road → in_force sheet step ≡ Some rule
    → IsLegalLike seed.road road → IsAt road c → AnswersSpeed rule.motion (dice_at seed step) road c v → min seed.road.limit (gap_of road c) ≤ v)
    → (step : ℕ) (car : Car) (far : ℕ) → IsAt seed.road car → HasGone seed sheet step car.number far → FromStart seed car step far Quick
from_start seed legal sheet stays Quick quick zero car far here gone =
    let none = newell_none seed.road.limit (lane_of seed.road car.lane) car.place in
    record { most = omega (arith, gone); least = λ fast. omega (arith, none) }
from_start seed legal sheet stays Quick quick (suc step) car far here gone =
    let is = gone.3 in
    let e : suc step ≡ 0 + suc step = omega arith in
    let p = principle seed legal sheet stays 0 Quick quick seed.road gone.0 car (suc step) 0 far (at_start seed sheet (suc step) gone.0 is) here
    (subst (λ j. IsRoadAt seed sheet j gone.0) e is) refl (subst (λ j. HasGone seed sheet j car.number far) e gone) in
    record {
      most = (let m = p.most in omega (arith, m));
      least = λ fast. let m = p.least fast in omega (arith, m);
    }

pub nobody_beats_minimum : NobodyBeatsMinimumPrinciple
nobody_beats_minimum sheet seed step car far stays legal here gone =
    (from_start seed legal sheet stays ⊥ (λ none. absurd none) step car far here gone).most

-- a car under a rule that allows the limit or the gap
gap_answers : (rule : Programs) (seed : Seed) → ReachesSpeedAtOnce rule → (step : ℕ) (road : Cells) (other : Programs) (c : Car) (v : ℕ) → in_force (always rule) step ≡ Some other
    → IsLegalLike seed.road road → IsAt road c → AnswersSpeed other.motion (dice_at seed step) road c v → min seed.road.limit (gap_of road c) ≤ v
gap_answers rule seed is t road other c v under like there answers =
    let same = one_rule rule other t under in
    let moves = subst (λ (r : Programs). ComputesSpeed (λ view words. min view.limit view.gap) r.motion.program) same is.motion in
    let answer : v ≡ min road.limit (gap_of road c) = answer_is (λ view words. min view.limit view.gap) other (dice_at seed t) road c v moves like.legal there answers in
    let limit : min road.limit (gap_of road c) ≡ min seed.road.limit (gap_of road c) = ap (λ k. min k (gap_of road c)) like.same_limit in
    omega (arith, answer, limit)

-- and without randomization
safe_answer : (rule : Programs) (seed : Seed) → IsNasch 0 rule → (step : ℕ) (road : Cells) (other : Programs) (c : Car) (v : ℕ) → in_force (always rule) step ≡ Some other
    → IsLegalLike seed.road road → IsAt road c → AnswersSpeed other.motion (dice_at seed step) road c v → v ≡ min (min (c.speed + 1) seed.road.limit) (gap_of road c)
safe_answer rule seed is t road other c v under like there answers =
    let same = one_rule rule other t under in
    let moves = subst (λ (r : Programs). ComputesSpeed (nasch_speed 0) r.motion.program) same is.motion.moves in
    let words = words_of (dice_at seed t) c.number in
    let answer = answer_is (nasch_speed 0) other (dice_at seed t) road c v moves like.legal there answers in
    let full = no_brake (happens_on 0 (slice_index words 0)) (safe_speed c.speed road.limit (gap_of road c)) (never (slice_index words 0)) in
    answer ∙ full ∙ ap (λ k. safe_speed c.speed k (gap_of road c)) like.same_limit

-- from step v_max on acceleration holds no car back
ready_answers : (rule : Programs) (seed : Seed) → IsNasch 0 rule → IsLegal seed.road → (step : ℕ) (road : Cells) (other : Programs) (c : Car) (v : ℕ) → seed.road.limit ≤ step → IsRoadAt seed (always rule) step road
    → in_force (always rule) step ≡ Some other → IsLegalLike seed.road road → IsAt road c → AnswersSpeed other.motion (dice_at seed step) road c v → min seed.road.limit (gap_of road c) ≤ v
ready_answers rule seed is legal t road other c v late at_step under like there answers =
    let safe = safe_answer rule seed is t road other c v under like there answers in
    let l = c.lane in
    let road_on = on_lane road l c.place (c.number, c.speed) there in
    let lanes = like.same_lanes in
    let some_limit = legal.shape.limit.some_limit in
    let here = lane_of_run rule seed (length (lane_of seed.road 0)) is legal legal.shape.cells.some_cell (cells_suffice seed legal) t road at_step.0 at_step.1 l (omega (arith, road_on, lanes)) in
    elim ((here.way.quick (omega (arith, late, some_limit))).quick c.place c.number c.speed there) [
      | inl ready ↦ omega (arith, safe, ready)
      | inr gained ↦ omega (arith, safe, gained, late)
    ]

-- as under each rule without randomization
answers_of : (rule : Programs) (seed : Seed) (delay begin : ℕ) → AcceleratesIn seed.road.limit delay rule → IsLegal seed.road → delay ≤ begin → (step : ℕ) (road : Cells) (other : Programs) (c : Car) (v : ℕ) → begin ≤ step
    → IsRoadAt seed (always rule) step road → in_force (always rule) step ≡ Some other → IsLegalLike seed.road road → IsAt road c → AnswersSpeed other.motion (dice_at seed step) road c v → min seed.road.limit (gap_of road c) ≤ v
answers_of rule seed delay begin (inl nasch) legal late step road other c v after is under like there answers =
    let e = nasch.1 in
    ready_answers rule seed nasch.0 legal step road other c v (omega (arith, late, after, e)) is under like there answers
answers_of rule seed delay begin (inr (inl slow)) legal late step road other c v after is under like there answers =
    let one = slow.1 in
    let limit : min (min (c.speed + 1) seed.road.limit) (gap_of road c) ≡ min (min (c.speed + 1) 1) (gap_of road c) = ap (λ k. min (min (c.speed + 1) k) (gap_of road c)) one in
    let safe = safe_answer rule seed slow.0 step road other c v under like there answers in
    omega (arith, safe, limit, one)
answers_of rule seed delay begin (inr (inr quick)) legal late step road other c v after is under like there answers =
    gap_answers rule seed quick.0 step road other c v under like there answers

stays_of : (rule : Programs) (limit delay : ℕ) → AcceleratesIn limit delay rule → EachRule StaysInLane (always rule)
stays_of rule limit delay (inl nasch) = always_so StaysInLane rule nasch.0.change
stays_of rule limit delay (inr (inl slow)) = always_so StaysInLane rule slow.0.change
stays_of rule limit delay (inr (inr quick)) = always_so StaysInLane rule quick.0.stays

pub minimum_principle_later : MinimumPrincipleLater
minimum_principle_later rule seed delay step k first road car far more is legal late first_is here on gone gone_on =
    let p = principle seed legal (always rule) (stays_of rule seed.road.limit delay is) step (Unit {0}) (λ fast. answers_of rule seed delay step is legal late) first road car k far more first_is here on gone gone_on in
    let most = p.most in
    let least = p.least tt in
    omega (arith, most, least)

pub minimum_principle : MinimumPrinciple
minimum_principle rule seed step car far is legal here gone =
    let p = from_start seed legal (always rule) (always_so StaysInLane rule is.stays) (Unit {0})
    (λ fast t road other c v after at_step. gap_answers rule seed is t road other c v) step car far here gone in
    let most = p.most in
    let least = p.least tt in
    omega (arith, most, least)

pub rule_184_minimum_principle : Rule184MinimumPrinciple
rule_184_minimum_principle rule seed step car far is legal one here gone =
    let p = from_start seed legal (always rule) (always_so StaysInLane rule is.change) (Unit {0}) (λ fast. answers_of rule seed 0 0 (inr (inl (is, one, refl))) legal (omega arith)) step car far here gone in
    let most = p.most in
    let least = p.least tt in
    omega (arith, most, least)

pub minimum_principle_gives_distance : MinimumPrincipleGivesDistance
minimum_principle_gives_distance rule seed step road sum is legal cold comes =
    let sheet = always rule in
    let n = cars seed.road in
    let gone = choose (λ i far. HasGone seed sheet step i far) n (λ i low. each_car_has_gone seed sheet step road sum i legal comes low) in
    sym (sum_of_standing (λ (car : Car). newell_distance seed.road.limit (lane_of seed.road car.lane) car.place step) gone.value seed.road legal
    (λ car here. sym (minimum_principle rule seed step car (gone.value car.number) is legal here (gone.is car.number (legal.numbered car here))))
    ∙ go_distance seed sheet step road sum gone.value legal cold comes gone.is)
