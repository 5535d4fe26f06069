-- No rule is faster: two runs from the same initial state, compared by the answers of their cars.
use Rattle.std.proofs.Common.{◌≡◌, ℕ, zero, suc, ◌+◌, ◌≤◌, ◌⊎◌, Bool, true, false, min, refl, sym, ◌∙◌, ap}
use Rattle.std.proofs.Common.{subst, inl, inr, arith, nat_eq, if◌then◌else◌, List, slice_index}
use Rattle.std.proofs.lemmas.Bool.{cases_lt}
use Rattle.trlab_words.specs.Words.{happens_on}
use Rattle.trlab_code.specs.declared.instruction.{Input.TheVariants.{Limit, Gap}, Register.TheVariants.R0}
use Rattle.trlab_code.specs.declared.{instruction.Register.TheVariants.R1, program.Kind.TheVariants.Motion}
use Rattle.trlab_code.specs.{declared.view.View.View, Machine.{At, Goes, start, update}}
use Rattle.trlab_machine.{specs.{declared.dice.Dice.Dice, Blocks.words_of}, proofs.Answers.one_answer}
use Rattle.trlab_road.specs.{declared.car.Car.Car, Cells.{Cells, IsAt, IsLegal}}
use Rattle.trlab_rules.{specs.Rules.{ComputesSpeed, Programs, IsNasch}, proofs.Rows.{Run, get, go, smaller}}
use Rattle.trlab_rules.specs.Published.{brake, nasch_speed, safe_speed, vdr_braking_chance, vdr_speed}
use Rattle.trlab_step.specs.{Answers.{AnswersSpeed, motion_view_of}, Run.{Seed, dice_at}}
use Rattle.trlab_step.proofs.{AnswersExist.motion_view_is_view, PartLaws.one_answer_each, RunLaws.force_all}
use Rattle.trlab_traffic.{specs.Terms.{EachRule, StaysInLane, always}, proofs.Courses.{gap_of, started}}
use Rattle.trlab_traffic.{specs.Comparison.{IsNoFaster, GapProgramReachesSpeedAtOnce}, proofs.Races.no_faster}
use Rattle.trlab_traffic.specs.Comparison.{NaschAcceleratesByAtMostOne, NobodyBeatsGap, NobodyBeatsNasch}
use Rattle.trlab_traffic.specs.Comparison.{RandomizationSlowsRuns, SlowStartsSlowRuns, AcceleratesByAtMostOne}
use Rattle.trlab_traffic.{specs.Comparison.{VdrAcceleratesByAtMostOne, gap_program}, proofs.FreeFlow.one_rule}
use Rattle.trlab_traffic.proofs.{Steps.never, Slower.more_happens}

-- a sheet of one rule has the properties of the rule
pub always_so : (P : Programs → Type 0) (rule : Programs) → P rule → EachRule P (always rule)
always_so P rule so zero d below = so
always_so P rule so (suc k) d below = absurd (omega (arith, below))

-- the answer of a car is the speed of its rule
pub answer_is : (speed : View → List ℕ → ℕ) (rule : Programs) (dice : Dice) (road : Cells) (car : Car) (v : ℕ) → ComputesSpeed speed rule.motion.program → IsLegal road → IsAt road car → AnswersSpeed rule.motion dice road car v
    → v ≡ speed (motion_view_of road car) (words_of dice car.number)
answer_is speed rule dice road car v moves legal here answers =
    let view = motion_view_of road car in
    let words = words_of dice car.number in
    one_answer_each rule.motion dice road car v (speed view words) answers (moves view words (motion_view_is_view road car legal here))

-- with probability 0 no car brakes at random
pub no_brake : (b : Bool) (v : ℕ) → b ≡ false → brake b v ≡ v
no_brake true v none = absurd cc
no_brake false v none = refl

-- no rule is faster than one under which cars reach their speed at once
record GapAnswers (limit ga a gb b : ℕ) : Type 0 where
  within_limit : a ≤ limit
  within_gap : a ≤ ga
  all : b ≡ min limit gb

gap_on : (limit fa ga a fb gb b : ℕ) → GapAnswers limit ga a gb b → fa + ga ≤ fb + gb → fa ≤ fb → fa + a ≤ fb + b
gap_on limit fa ga a fb gb b answers ends before =
    let x = answers.within_limit in
    let y = answers.within_gap in
    let z = answers.all in
    omega (arith, x, y, z, ends, before)

pub nobody_beats_gap : NobodyBeatsGap
nobody_beats_gap rule sheet seed step is stay legal =
    no_faster seed legal (started seed.road legal) sheet (always rule) stay (always_so StaysInLane rule is.stays)
    (λ va ga a vb gb b. GapAnswers seed.road.limit ga a gb b)
    (λ t road other a b v w pair.
    let same = one_rule rule pair.other_rule t pair.other_under in
    let moves = subst (λ (r : Programs). ComputesSpeed (λ view words. min view.limit view.gap) r.motion.program) same is.motion in
    let answer = answer_is (λ view words. min view.limit view.gap) pair.other_rule (dice_at seed t) other b w moves pair.other_like.legal pair.there pair.other_answers in
    let limit : min other.limit (gap_of other b) ≡ min seed.road.limit (gap_of other b) = ap (λ k. min k (gap_of other b)) pair.other_like.same_limit in
    record { within_limit = pair.within_limit; within_gap = pair.within_gap; all = answer ∙ limit })
    (λ va fa vb gb fb next. fa ≤ fb)
    (λ speed room next. omega arith)
    (λ va fa vb gb fb next keeps. keeps)
    (λ va ga fa a vb gb fb b next next_b after ua ha c hb own others gap within ends before. gap_on seed.road.limit fa ga a fb gb b own ends before)
    step

-- nor faster than the rule of 1992 without randomization, under which each car speeds up by at most one
record UpAnswers (limit va ga a vb gb b : ℕ) : Type 0 where
  up : a ≤ va + 1
  within_limit : a ≤ limit
  within_gap : a ≤ ga
  safe : b ≡ min (min (vb + 1) limit) gb

-- a car that has gone no further is as slow as its partner, or the partner moves by its gap or the limit
-- from now on
record UpKeeps (limit va fa vb gb fb next : ℕ) : Type 0 where
  no_further : fa ≤ fb
  state : ((fa ≡ fb) × (va ≡ vb) × (fb ≡ 0)) ⊎ ((next ≤ gb) × ((va ≤ vb) ⊎ (min limit gb ≤ vb + 1)))

up_ready : (limit va ga fa a vb gb fb b next next_b after ua ha c hb : ℕ) → UpAnswers limit va ga a vb gb b → UpAnswers limit ua ha c next hb next_b → after + b ≡ gb + next_b
    → fa + ga ≤ fb + gb → fa ≤ fb → next ≤ gb → min limit gb ≤ vb + 1 → UpKeeps limit a (fa + a) b after (fb + b) next_b
up_ready limit va ga fa a vb gb fb b next next_b after ua ha c hb own others gap ends before led ready =
    let x = own.within_limit in
    let y = own.within_gap in
    let z = own.safe in
    let n = others.safe in
    record {
      no_further = omega (arith, x, y, z, ends, before, ready);
      state = inr (omega (arith, z, gap), inr (let k : min limit after ≤ b + 1 = omega (arith, z, n, gap, led, ready) in k));
    }

up_on : (limit va ga fa a vb gb fb b next next_b after ua ha c hb : ℕ) → UpAnswers limit va ga a vb gb b → UpAnswers limit ua ha c next hb next_b → after + b ≡ gb + next_b
    → fa + ga ≤ fb + gb → UpKeeps limit va fa vb gb fb next → UpKeeps limit a (fa + a) b after (fb + b) next_b
up_on limit va ga fa a vb gb fb b next next_b after ua ha c hb own others gap ends keeps =
    let u = own.up in
    let x = own.within_limit in
    let y = own.within_gap in
    let z = own.safe in
    let before = keeps.no_further in
    elim keeps.state [
      | inl at_start ↦
          let same = at_start.0 in
          let speed = at_start.1 in
          let slower : a ≤ b = omega (arith, u, x, y, z, same, speed, ends) in
          record { no_further = omega (arith, slower, before); state = inr (omega (arith, z, gap), inl slower) }
      | inr later ↦ elim later.1 [
        | inl slow ↦ elim (cases_lt (vb + 1) (min limit gb)) [
          | inl held ↦
              let slower : a ≤ b = omega (arith, u, z, slow, held) in
              record { no_further = omega (arith, slower, before); state = inr (omega (arith, z, gap), inl slower) }
          | inr ready ↦ up_ready limit va ga fa a vb gb fb b next next_b after ua ha c hb own others gap ends before later.0 ready
        ]
        | inr ready ↦ up_ready limit va ga fa a vb gb fb b next next_b after ua ha c hb own others gap ends before later.0 ready
      ]
    ]

pub nobody_beats_nasch : NobodyBeatsNasch
nobody_beats_nasch rule sheet seed step is up stay legal =
    no_faster seed legal (started seed.road legal) sheet (always rule) stay (always_so StaysInLane rule is.change)
    (λ va ga a vb gb b. UpAnswers seed.road.limit va ga a vb gb b)
    (λ t road other a b v w pair.
    let same = one_rule rule pair.other_rule t pair.other_under in
    let moves = subst (λ (r : Programs). ComputesSpeed (nasch_speed 0) r.motion.program) same is.motion.moves in
    let words = words_of (dice_at seed t) b.number in
    let answer = answer_is (nasch_speed 0) pair.other_rule (dice_at seed t) other b w moves pair.other_like.legal pair.there pair.other_answers in
    let full = no_brake (happens_on 0 (slice_index words 0)) (safe_speed b.speed other.limit (gap_of other b)) (never (slice_index words 0)) in
    let limit : safe_speed b.speed other.limit (gap_of other b) ≡ safe_speed b.speed seed.road.limit (gap_of other b) = ap (λ k. safe_speed b.speed k (gap_of other b)) pair.other_like.same_limit in
    let one = force_all AcceleratesByAtMostOne sheet t pair.rule up pair.under in
    let seen = motion_view_is_view road a pair.like.legal pair.here in
    let asked = pair.answers in
    record {
      up = one (motion_view_of road a) (words_of (dice_at seed t) a.number) v asked.0 seen asked.1;
      within_limit = pair.within_limit;
      within_gap = pair.within_gap;
      safe = answer ∙ full ∙ limit;
    })
    (λ va fa vb gb fb next. UpKeeps seed.road.limit va fa vb gb fb next)
    (λ speed room next. record { no_further = omega arith; state = inl (refl, refl, refl) })
    (λ va fa vb gb fb next keeps. keeps.no_further)
    (λ va ga fa a vb gb fb b next next_b after ua ha c hb own others gap within ends before. up_on seed.road.limit va ga fa a vb gb fb b next next_b after ua ha c hb own others gap ends before)
    step

-- the rules of 1992 and of 1998 speed cars up by at most one
brake_down : (b : Bool) (v : ℕ) → brake b v ≤ v
brake_down true v = omega arith
brake_down false v = omega arith

one_goes : (a b : ℕ) → Goes a ≡ Goes b → a ≡ b
one_goes a b same = cc

pub nasch_speeds_up_by_one : NaschAcceleratesByAtMostOne
nasch_speeds_up_by_one p rule is view words speed n seen ends =
    let code = rule.motion.program.instrs in
    let own = is.motion.moves view words seen in
    let same = one_goes speed (nasch_speed p view words) (one_answer Motion code view words (Goes speed) (Goes (nasch_speed p view words)) n own.0 ends own.1).0 in
    let most = brake_down (happens_on p (slice_index words 0)) (safe_speed view.speed view.limit view.gap) in
    let up : safe_speed view.speed view.limit view.gap ≤ view.speed + 1 = (let k : min (min (view.speed + 1) view.limit) view.gap ≤ view.speed + 1 = omega arith in k) in
    omega (arith, same, most, up)

pub vdr_speeds_up_by_one : VdrAcceleratesByAtMostOne
vdr_speeds_up_by_one p p0 rule is view words speed n seen ends =
    let code = rule.motion.program.instrs in
    let own = is.motion.moves view words seen in
    let same = one_goes speed (vdr_speed p p0 view words) (one_answer Motion code view words (Goes speed) (Goes (vdr_speed p p0 view words)) n own.0 ends own.1).0 in
    let most = brake_down (happens_on (vdr_braking_chance p p0 view.speed) (slice_index words 0)) (safe_speed view.speed view.limit view.gap) in
    let up : safe_speed view.speed view.limit view.gap ≤ view.speed + 1 = (let k : min (min (view.speed + 1) view.limit) view.gap ≤ view.speed + 1 = omega arith in k) in
    omega (arith, same, most, up)

-- with v_max = 1 a larger braking probability slows whole runs
record BrakeAnswers (ga a gb b : ℕ) : Type 0 where
  one : a ≤ 1
  slower : ga ≤ gb → a ≤ b

-- a car that brakes with a smaller probability, or has more room, goes at least as far
pub brakes_more : (c d : Bool) (va ga vb gb : ℕ) → (d ≡ true → c ≡ true) → ga ≤ gb → brake c (min (min (va + 1) 1) ga) ≤ brake d (min (min (vb + 1) 1) gb)
brakes_more true true va ga vb gb so room = omega (arith, room)
brakes_more true false va ga vb gb so room = omega (arith, room)
brakes_more false true va ga vb gb so room = let e = so refl in absurd cc
brakes_more false false va ga vb gb so room = omega (arith, room)

-- a rule whose cars brake with a probability that is never smaller, for any speed
braking_slows : (p : ℕ) (chance : ℕ → ℕ) (light heavy : Programs) (seed : Seed) (step : ℕ) → ((speed : ℕ) → p ≤ chance speed) → IsNasch p light
    → ComputesSpeed (λ view words. nasch_speed (chance view.speed) view words) heavy.motion.program → StaysInLane heavy → IsLegal seed.road → seed.road.limit ≡ 1
    → IsNoFaster seed (always heavy) (always light) step
braking_slows p chance light heavy seed step more is_light heavy_moves heavy_stays legal one =
    no_faster seed legal (started seed.road legal) (always heavy) (always light) (always_so StaysInLane heavy heavy_stays) (always_so StaysInLane light is_light.change)
    (λ va ga a vb gb b. BrakeAnswers ga a gb b)
    (λ t road other a b v w pair.
    let slow = one_rule heavy pair.rule t pair.under in
    let fast = one_rule light pair.other_rule t pair.other_under in
    let moves = subst (λ (r : Programs). ComputesSpeed (λ view words. nasch_speed (chance view.speed) view words) r.motion.program) slow heavy_moves in
    let other_moves = subst (λ (r : Programs). ComputesSpeed (nasch_speed p) r.motion.program) fast is_light.motion.moves in
    let dice = dice_at seed t in
    let words = words_of dice a.number in
    let c = happens_on (chance a.speed) (slice_index (words_of dice a.number) 0) in
    let d = happens_on p (slice_index (words_of dice a.number) 0) in
    let first = answer_is (λ view words. nasch_speed (chance view.speed) view words) pair.rule dice road a v moves pair.like.legal pair.here pair.answers in
    let second = answer_is (nasch_speed p) pair.other_rule dice other b w other_moves pair.other_like.legal pair.there pair.other_answers in
    let limit : safe_speed a.speed road.limit (gap_of road a) ≡ min (min (a.speed + 1) 1) (gap_of road a) = ap (λ k. safe_speed a.speed k (gap_of road a)) (pair.like.same_limit ∙ one) in
    let other_limit : safe_speed b.speed other.limit (gap_of other b) ≡ min (min (b.speed + 1) 1) (gap_of other b) = ap (λ k. safe_speed b.speed k (gap_of other b)) (pair.other_like.same_limit ∙ one) in
    let v_is : v ≡ brake c (min (min (a.speed + 1) 1) (gap_of road a)) = first ∙ ap (brake c) limit in
    let w_is : w ≡ brake d (min (min (b.speed + 1) 1) (gap_of other b)) =
    second ∙ ap (λ i. brake (happens_on p (slice_index (words_of dice i) 0)) (safe_speed b.speed other.limit (gap_of other b))) (sym pair.same) ∙ ap (brake d) other_limit in
    let most = pair.within_limit in
    record {
      one = omega (arith, most, one);
      slower = λ room. let less = brakes_more c d a.speed (gap_of road a) b.speed (gap_of other b) (more_happens p (chance a.speed) (slice_index (words_of dice a.number) 0) (more a.speed)) room in omega (arith, v_is, w_is, less);
    })
    (λ va fa vb gb fb next. fa ≤ fb)
    (λ speed room next. omega arith)
    (λ va fa vb gb fb next keeps. keeps)
    (λ va ga fa a vb gb fb b next next_b after ua ha c hb own others gap within ends before. brake_on fa ga a fb gb b own ends before)
    step
  where
    brake_on : (fa ga a fb gb b : ℕ) → BrakeAnswers ga a gb b → fa + ga ≤ fb + gb → fa ≤ fb → fa + a ≤ fb + b
    brake_on fa ga a fb gb b answers ends before =
        let one = answers.one in
        elim (cases_lt fa fb) [
          | inl behind ↦ omega (arith, one, behind)
          | inr level ↦ let less = answers.slower (let k : ga ≤ gb = omega (arith, ends, before, level) in k) in omega (arith, less, before)
        ]

pub randomization_slows_runs : RandomizationSlowsRuns
randomization_slows_runs p q light heavy seed step more is_light is_heavy legal one =
    braking_slows p (λ speed. q) light heavy seed step (λ speed. more) is_light is_heavy.motion.moves is_heavy.change legal one

greater : (b : Bool) (p q q0 : ℕ) → p ≤ q → p ≤ q0 → p ≤ (if b then q0 else q)
greater true p q q0 more more0 = more0
greater false p q q0 more more0 = more

pub slow_starts_slow_runs : SlowStartsSlowRuns
slow_starts_slow_runs p q q0 light heavy seed step more more0 is_light is_heavy legal one =
    braking_slows p (vdr_braking_chance q q0) light heavy seed step (λ speed. greater (nat_eq speed 0) p q q0 more more0) is_light is_heavy.motion.moves is_heavy.change legal one

-- the program that goes as far as the gap and the limit allow
gap_runs : (view : View) (words : List ℕ) → Run Motion gap_program.instrs view words (At 0 (start Motion view)) (Goes (min view.limit view.gap))
unfolding start update
gap_runs view words =
    get R0 Limit view.limit refl refl refl
    (get R1 Gap view.gap refl refl refl
    (smaller R0 R0 R1 view.limit view.gap refl refl refl
    (go R0 (min view.limit view.gap) refl refl (omega arith) (omega arith))))

pub gap_program_goes_at_once : GapProgramReachesSpeedAtOnce
gap_program_goes_at_once rule same stays =
    let moves : ComputesSpeed (λ view words. min view.limit view.gap) gap_program = λ view words seen. let run = gap_runs view words in (run.steps, run.ends) in
    record { motion = subst (ComputesSpeed (λ view words. min view.limit view.gap)) (sym same) moves; stays = stays }
