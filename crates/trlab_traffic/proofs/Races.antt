-- Two runs from the same initial state without lane changes, car by car.
use Rattle.std.proofs.Common.{◌≡◌, ℕ, zero, suc, ◌+◌, ◌<◌, ◌≤◌, Some, sym, ◌∙◌, subst, arith}
use Rattle.trlab_road.specs.{declared.car.Car.Car, Cells.{Cells, IsAt, cars, IsLegal}}
use Rattle.trlab_rules.specs.Rules.{Programs}
use Rattle.trlab_step.specs.{declared.tally.StepTally.StepTally, Answers.AnswersSpeed, Laws.IsLegalLike}
use Rattle.trlab_step.{specs.Run.{ComesTo, Seed, Sheet, dice_at, in_force}, proofs.RunLaws.force_all}
use Rattle.trlab_traffic.specs.{Terms.{EachRule, StaysInLane}, Following.HasGone, Comparison.IsNoFaster}
use Rattle.trlab_traffic.proofs.Steps.{answers_fit, motion_alone}
use Rattle.trlab_traffic.proofs.Courses.{Course, course_of_start, course_on, gap_of, gap_on, moved, Start}
use Rattle.trlab_traffic.proofs.Courses.{within_gap, go_distance, gone_is_one, run_like, total_le}

-- the answers of two cars with the same number, one in each run, at one step
pub record Pair (seed : Seed) (slow fast : Sheet) (step : ℕ) (road other : Cells) (a b : Car) (v w : ℕ) : Type 0 where
  pub rule : Programs
  pub other_rule : Programs
  pub under : in_force slow step ≡ Some rule
  pub other_under : in_force fast step ≡ Some other_rule
  pub like : IsLegalLike seed.road road
  pub other_like : IsLegalLike seed.road other
  pub here : IsAt road a
  pub there : IsAt other b
  pub same : a.number ≡ b.number
  pub answers : AnswersSpeed rule.motion (dice_at seed step) road a v
  pub other_answers : AnswersSpeed other_rule.motion (dice_at seed step) other b w
  pub within_limit : v ≤ seed.road.limit
  pub within_gap : v ≤ gap_of road a
  pub other_within_gap : w ≤ gap_of other b

-- a relation of the answers of two such cars, by their speeds and gaps; and one that steps preserve: of the
-- slow car's speed and distance, and of the fast car's speed, gap and distance, with the speed of its next
-- car
module _ (seed : Seed) (legal : IsLegal seed.road) (start : Start seed.road) (slow fast : Sheet) (stays : EachRule StaysInLane slow) (others_stay : EachRule StaysInLane fast)
    (Goes : ℕ → ℕ → ℕ → ℕ → ℕ → ℕ → Type 0)
    (answered : (step : ℕ) (road other : Cells) (a b : Car) (v w : ℕ) → Pair seed slow fast step road other a b v w → Goes a.speed (gap_of road a) v b.speed (gap_of other b) w)
    (Keeps : ℕ → ℕ → ℕ → ℕ → ℕ → ℕ → Type 0)
    (begin : (speed room next : ℕ) → Keeps speed 0 speed room 0 next)
    (further : (va fa vb gb fb next : ℕ) → Keeps va fa vb gb fb next → fa ≤ fb)
    (on : (va ga fa a vb gb fb b next next_b after ua ha c hb : ℕ) → Goes va ga a vb gb b → Goes ua ha c next hb next_b → after + b ≡ gb + next_b → b ≤ gb
    → fa + ga ≤ fb + gb → Keeps va fa vb gb fb next → Keeps a (fa + a) b after (fb + b) next_b) where
  -- both runs at a step
  record Race (step : ℕ) (road other : Cells) : Type 0 where
    car : ℕ → Car
    far : ℕ → ℕ
    other_car : ℕ → Car
    other_far : ℕ → ℕ
    course : Course seed slow start.next (λ i. gap_of seed.road (start.car i)) step road car far
    other_course : Course seed fast start.next (λ i. gap_of seed.road (start.car i)) step other other_car other_far
    keeps : (i : ℕ) → i < cars seed.road → Keeps (car i).speed (far i) (other_car i).speed (gap_of other (other_car i)) (other_far i) (other_car (start.next i)).speed

  race : (step : ℕ) (road other : Cells) (sum most : StepTally) → ComesTo seed slow step road sum → ComesTo seed fast step other most → Race step road other
  race zero road other sum most comes also =
      let begun : Race 0 seed.road seed.road = record {
        car = start.car;
        far = λ i. 0;
        other_car = start.car;
        other_far = λ i. 0;
        course = course_of_start seed slow start;
        other_course = course_of_start seed fast start;
        keeps = λ i low. begin (start.car i).speed (gap_of seed.road (start.car i)) (start.car (start.next i)).speed;
      } in
      subst (λ (r : Cells). Race 0 r other) (sym comes.1) (subst (λ (r : Cells). Race 0 seed.road r) (sym also.1) begun)
  race (suc step) road other sum most comes also =
      let old = comes.0 in
      let beside = also.0 in
      let r = race step old beside comes.1 also.1 comes.4 also.4 in
      let dice = dice_at seed step in
      let rule = comes.2 in
      let other_rule = also.2 in
      let go = comes.5 in
      let other_go = also.5 in
      let like = run_like seed slow step old comes.1 legal comes.4 in
      let other_like = run_like seed fast step beside also.1 legal also.4 in
      let phase = motion_alone rule dice old road comes.3 (force_all StaysInLane slow step rule stays go.under) go.next in
      let other_phase = motion_alone other_rule dice beside other also.3 (force_all StaysInLane fast step other_rule others_stay other_go.under) other_go.next in
      let speeds = phase.0 in
      let others = other_phase.0 in
      let fits = answers_fit rule.motion dice old speeds phase.1 in
      let other_fits = answers_fit other_rule.motion dice beside others other_phase.1 in
      let v : ℕ → ℕ = λ i. speeds (r.car i).lane (r.car i).place in
      let w : ℕ → ℕ = λ i. others (r.other_car i).lane (r.other_car i).place in
      let pair : (i : ℕ) → i < cars seed.road → Pair seed slow fast step old beside (r.car i) (r.other_car i) (v i) (w i) = λ i low.
      let here = r.course.stands i low in
      let there = r.other_course.stands i low in
      let most_here = fits.within_limit (r.car i) here in
      let limit = like.same_limit in
      record {
        rule = rule;
        other_rule = other_rule;
        under = go.under;
        other_under = other_go.under;
        like = like;
        other_like = other_like;
        here = here;
        there = there;
        same = r.course.numbered i low ∙ sym (r.other_course.numbered i low);
        answers = phase.1.each (r.car i) here;
        other_answers = other_phase.1.each (r.other_car i) there;
        within_limit = omega (arith, most_here, limit);
        within_gap = within_gap old road speeds phase.2 fits (r.car i) here;
        other_within_gap = within_gap beside other others other_phase.2 other_fits (r.other_car i) there;
      } in
      let goes_so : (i : ℕ) → i < cars seed.road → Goes (r.car i).speed (gap_of old (r.car i)) (v i) (r.other_car i).speed (gap_of beside (r.other_car i)) (w i) =
      λ i low. answered step old beside (r.car i) (r.other_car i) (v i) (w i) (pair i low) in
      let room = λ (i : ℕ). gap_of seed.road (start.car i) in
      let ends_no_further : (i : ℕ) → i < cars seed.road → r.far i + gap_of old (r.car i) ≤ r.other_far i + gap_of beside (r.other_car i) = λ i low.
      let j = start.next i in
      let next_low = start.low_next i low in
      let a = r.course.balance i low in
      let b = r.other_course.balance i low in
      let c = further (r.car j).speed (r.far j) (r.other_car j).speed (gap_of beside (r.other_car j)) (r.other_far j) (r.other_car (start.next j)).speed (r.keeps j next_low) in
      omega (arith, a, b, c) in
      record {
        car = λ i. moved old road speeds phase.2 fits (r.car i);
        far = λ i. r.far i + v i;
        other_car = λ i. moved beside other others other_phase.2 other_fits (r.other_car i);
        other_far = λ i. r.other_far i + w i;
        course = course_on old road speeds phase.2 fits seed slow start.next room step r.car r.far r.course start.low_next (sum, comes);
        other_course = course_on beside other others other_phase.2 other_fits seed fast start.next room step r.other_car r.other_far r.other_course start.low_next (most, also);
        keeps = λ i low.
            let j = start.next i in
            on (r.car i).speed (gap_of old (r.car i)) (r.far i) (v i) (r.other_car i).speed (gap_of beside (r.other_car i)) (r.other_far i) (w i) (r.other_car j).speed (w j)
            (gap_of other (moved beside other others other_phase.2 other_fits (r.other_car i))) (r.car j).speed (gap_of old (r.car j)) (v j) (gap_of beside (r.other_car j))
            (goes_so i low) (goes_so j (start.low_next i low))
            (gap_on beside other others other_phase.2 other_fits seed fast start.next room step r.other_car r.other_far r.other_course start.low_next i low)
            (pair i low).other_within_gap (ends_no_further i low) (r.keeps i low);
      }

  each_car : (step number far most : ℕ) → HasGone seed slow step number far → HasGone seed fast step number most → far ≤ most
  each_car zero number far most gone also = omega (arith, gone, also)
  each_car (suc step) number far most gone also =
      let is = gone.3 in
      let other_is = also.3 in
      let r = race (suc step) gone.0 also.0 is.0 other_is.0 is.1 other_is.1 in
      let like = run_like seed slow (suc step) gone.0 is.0 legal is.1 in
      let count = like.same_count in
      let below = like.legal.numbered gone.1 gone.4 in
      let numbered = gone.5 in
      let low : number < cars seed.road = omega (arith, count, below, numbered) in
      let a = gone_is_one seed slow (suc step) number far (r.far number) legal gone (r.course.gone number low) in
      let b = gone_is_one seed fast (suc step) number most (r.other_far number) legal also (r.other_course.gone number low) in
      let c = further (r.car number).speed (r.far number) (r.other_car number).speed (gap_of also.0 (r.other_car number)) (r.other_far number) (r.other_car (start.next number)).speed (r.keeps number low) in
      omega (arith, a, b, c)

  pub no_faster : (step : ℕ) → IsNoFaster seed slow fast step
  no_faster step = record {
    each_car = λ number far most gone also. each_car step number far most gone also;
    all_cars = λ road other sum most cold comes also.
        let r = race step road other sum most comes also in
        let a = go_distance seed slow step road sum r.far legal cold comes r.course.gone in
        let b = go_distance seed fast step other most r.other_far legal cold also r.other_course.gone in
        let c = total_le r.far r.other_far (cars seed.road)
        (λ i low. further (r.car i).speed (r.far i) (r.other_car i).speed (gap_of other (r.other_car i)) (r.other_far i) (r.other_car (start.next i)).speed (r.keeps i low)) in
        omega (arith, a, b, c);
  }
