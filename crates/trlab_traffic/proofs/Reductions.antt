-- Rules that act alike: slow starts with the braking probability of all cars, and lane changes with
-- probability 0.
use Rattle.std.proofs.Common.{◌≡◌, ℕ, zero, suc, ◌+◌, ◌<◌, ◌&&◌, Bool, true, false, cond, Option, Some, None}
use Rattle.std.proofs.Common.{List, [], ◌∷◌, length, get_or, refl, sym, ◌∙◌, ap, subst, arith, if◌then◌else◌}
use Rattle.std.proofs.Common.{MatchOption, count_by, nat_eq, nat_lt, slice_index}
use Rattle.std.proofs.lemmas.List.Sums.{sum_by-cons}
use Rattle.trlab_code.specs.declared.{program.Kind.TheVariants.Change, view.View.View}
use Rattle.trlab_code.specs.Machine.{Crosses as EndsAcross, Stays, EndsWith}
use Rattle.trlab_verify.specs.Verified.{CheckedProgram}
use Rattle.trlab_machine.specs.{declared.dice.Dice.Dice, Blocks.words_of}
use Rattle.trlab_road.specs.{declared.car.Car.Car, Cells.{AgreeAtCars, Cell, Cells, IsAt, cell, IsLegal}}
use Rattle.trlab_road.specs.{Cells.standing, LaneChange.{ChangesLanes, cell_after_change, other_lane}}
use Rattle.trlab_road.proofs.{LaneChangeLaws.{crosses_by, one_road_after_change}, Numbers.no_one}
use Rattle.trlab_road.proofs.StandingOrder.{length-standing_from_lane, standing_cell}
use Rattle.trlab_rules.specs.Rules.{ComputesCrossing, ComputesSpeed, Programs, IsChangeComputing}
use Rattle.trlab_rules.specs.{Published.{nasch_speed, rickert_crosses, vdr_speed}, Standard.rickert_program}
use Rattle.trlab_step.specs.{declared.tally.StepTally.StepTally, Answers.{AnswersCrossing, AnswersCrossings}}
use Rattle.trlab_step.specs.Answers.{AnswersSpeed, AnswersSpeeds, change_view_of, motion_view_of}
use Rattle.trlab_step.specs.{Laws.IsLegalLike, Next.{IsLaneChangePhase, IsMotionPhase, IsNext, crossing_cars}}
use Rattle.trlab_step.{specs.Run.{ComesTo, Seed, dice_at}, proofs.AnswersExist.change_view_is_view}
use Rattle.trlab_step.proofs.{AnswersExist.motion_view_is_view, NextLaws.{like_itself, like_next}}
use Rattle.trlab_step.proofs.PartLaws.{one_answer_each, one_crossing_each}
use Rattle.trlab_traffic.specs.Invariance.{HaveSameSteps, RickertReducesToNasch, SameStepsGiveSameRuns}
use Rattle.trlab_traffic.{specs.Invariance.VdrReducesToNasch, proofs.Steps.{middle_like, next_legal_like}}
use Rattle.trlab_traffic.proofs.{Steps.never, FreeFlow.{in_force_one, one_rule}}

-- motion programs with the same speeds move the cars alike
module _ (f g : View → List ℕ → ℕ) (motion other : CheckedProgram) (by_f : ComputesSpeed f motion.program) (by_g : ComputesSpeed g other.program)
    (same : (view : View) (words : List ℕ) → f view words ≡ g view words) where
  speeds_alike : (dice : Dice) (road : Cells) (speeds : ℕ → ℕ → ℕ) → IsLegal road → AnswersSpeeds motion dice road speeds → AnswersSpeeds other dice road speeds
  speeds_alike dice road speeds legal answers = record {
    each = λ car here.
        let view = motion_view_of road car in
        let words = words_of dice car.number in
        let seen = motion_view_is_view road car legal here in
        let one = one_answer_each motion dice road car (speeds car.lane car.place) (f view words) (answers.each car here) (by_f view words seen) in
        subst (AnswersSpeed other dice road car) (sym (one ∙ same view words)) (by_g view words seen);
  }

  pub motion_alike : (dice : Dice) (road next : Cells) → IsLegal road → IsMotionPhase motion dice road next → IsMotionPhase other dice road next
  motion_alike dice road next legal phase = (phase.0, speeds_alike dice road phase.0 legal phase.1, phase.2)

-- if the lane changes lead to the same middle road, and the motions from there to the same road, so do the
-- steps
step_alike : (rule other : Programs) (dice : Dice) (road next : Cells) (tally : StepTally) → IsLegal road
    → ((middle : Cells) → IsLaneChangePhase rule.change dice road middle tally.changes → IsLaneChangePhase other.change dice road middle tally.changes)
    → ((middle : Cells) → IsLegal middle → IsMotionPhase rule.motion dice middle next → IsMotionPhase other.motion dice middle next)
    → IsNext rule dice road next tally → IsNext other dice road next tally
step_alike rule other dice road next tally legal change motion is =
    let middle = is.0 in
    let like = middle_like rule.change dice road middle tally.changes legal is.1.lane_change in (
      middle,
      record {
        lane_change = change middle is.1.lane_change;
        motion = motion middle like.legal is.1.motion;
        distance = is.1.distance;
        stopped = is.1.stopped;
      },
    )

-- one probability for all speeds
one_chance : (b : Bool) (p : ℕ) → (if b then p else p) ≡ p
one_chance true p = refl
one_chance false p = refl

slow_starts : (p : ℕ) (view : View) (words : List ℕ) → vdr_speed p p view words ≡ nasch_speed p view words
slow_starts p view words = ap (λ (chance : ℕ). nasch_speed chance view words) (one_chance (nat_eq view.speed 0) p)

no_change : (change other : Option CheckedProgram) (dice : Dice) (road middle : Cells) (changes : ℕ) → change ≡ None → other ≡ None → IsLaneChangePhase change dice road middle changes → IsLaneChangePhase other dice road middle changes
no_change change other dice road middle changes none nor phase =
    subst (λ (c : Option CheckedProgram). IsLaneChangePhase c dice road middle changes) (none ∙ sym nor) phase

pub vdr_of_one_chance : VdrReducesToNasch
vdr_of_one_chance p lanes rule other vdr nasch dice road next tally legal count = (
  step_alike rule other dice road next tally legal
      (λ middle phase. no_change rule.change other.change dice road middle tally.changes vdr.change nasch.change phase)
      (λ middle is phase. motion_alike (vdr_speed p p) (nasch_speed p) rule.motion other.motion vdr.motion.moves nasch.motion.moves (slow_starts p) dice middle next is phase),
  step_alike other rule dice road next tally legal
      (λ middle phase. no_change other.change rule.change dice road middle tally.changes nasch.change vdr.change phase)
      (λ middle is phase. motion_alike (nasch_speed p) (vdr_speed p p) other.motion rule.motion nasch.motion.moves vdr.motion.moves (λ view words. sym (slow_starts p view words)) dice middle next is phase),
)

-- no car changes lanes
abbrev nobody : ℕ → ℕ → Bool
nobody l x = false

all_false : (a b c d : Bool) → (a && b && c && d && false) ≡ false
all_false false b c d = refl
all_false true false c d = refl
all_false true true false d = refl
all_false true true true false = refl
all_false true true true true = refl

never_crosses : (view : View) (words : List ℕ) → rickert_crosses 0 view words ≡ false
never_crosses view words =
    let a = view.side in
    let b = nat_lt view.gap (view.speed + 1) in
    let c = nat_lt (view.speed + 1) view.sidegap in
    let d = nat_lt view.limit view.sideback in
    ap (λ (e : Bool). a && b && c && d && e) (never (slice_index words 1)) ∙ all_false a b c d

kept : (own beside : Cell) → own ≡ cell_after_change false false own beside
kept None beside = refl
kept (Some car) beside = refl

-- if no car changes lanes, the road does not change
pub nobody_crosses : (road : Cells) → ChangesLanes nobody road road
nobody_crosses road = record {
  same_limit = refl;
  same_lanes = refl;
  each_lane = λ l on. record { same_length = refl; each_cell = λ x low. kept (cell road l x) (cell road (other_lane l) x) };
}

-- a car that passes counts as one
abbrev one_if : Bool → ℕ
one_if b = cond b 1 0

count_none : (p : Car → Bool) (xs : List Car) (d : Car) → ((k : ℕ) → k < length xs → p (get_or xs k d) ≡ false) → count_by p xs ≡ 0
count_none p [] d none = refl
count_none p (x ∷ xs) d none =
    let split = sum_by-cons (λ (car : Car). cond (p car) 1 0) x xs in
    let first : ◌≡◌ {A = ℕ} (cond (p x) 1 0) 0 = ap one_if (none 0 (omega arith)) in
    let rest = count_none p xs d (λ k below. none (suc k) (omega arith)) in
    omega (arith, split, first, rest)

none_counted : (crosses : ℕ → ℕ → Bool) (road : Cells) → AgreeAtCars crosses nobody road → crossing_cars crosses road ≡ 0
none_counted crosses road none =
    let count = length-standing_from_lane 0 road.lanes in
    count_none (λ car. crosses car.lane car.place) (standing road) no_one
    (λ k below. none (get_or (standing road) k no_one) (standing_cell road k no_one (omega (arith, below, count))))

module _ (change : CheckedProgram) (by : ComputesCrossing (rickert_crosses 0) change.program) (dice : Dice) (road : Cells) (legal : IsLegal road) (two : length road.lanes ≡ 2) where
  stays : (car : Car) → IsAt road car → AnswersCrossing change dice road car false
  stays car here =
      let view = change_view_of road car in
      let words = words_of dice car.number in
      let answer = by view words (change_view_is_view road car legal two here) in
      (answer.0, subst (λ (b : Bool). EndsWith Change change.program.instrs view words (if b then EndsAcross else Stays) answer.0) (never_crosses view words) answer.1)

  none_cross : (crosses : ℕ → ℕ → Bool) → AnswersCrossings change dice road crosses → AgreeAtCars crosses nobody road
  none_cross crosses answers car here = one_crossing_each change dice road car (crosses car.lane car.place) false (answers.each car here) (stays car here)

  as_none : (middle : Cells) (changes : ℕ) → IsLaneChangePhase (Some change) dice road middle changes → IsLaneChangePhase None dice road middle changes
  as_none middle changes phase =
      let none = none_cross phase.1 phase.2 in
      (one_road_after_change nobody road middle road (crosses_by phase.1 nobody road middle none phase.3) (nobody_crosses road), phase.4 ∙ none_counted phase.1 road none)

  from_none : (middle : Cells) (changes : ℕ) → IsLaneChangePhase None dice road middle changes → IsLaneChangePhase (Some change) dice road middle changes
  from_none middle changes phase = (
    two,
    nobody,
    record { each = stays },
    subst (ChangesLanes nobody road) (sym phase.0) (nobody_crosses road),
    phase.1 ∙ sym (none_counted nobody road (λ car here. refl)),
  )

-- with probability 0 the rule of 1996 changes no lanes
record AsNone (change : Option CheckedProgram) (dice : Dice) (road middle : Cells) (changes : ℕ) : Type 0 where
  to : IsLaneChangePhase change dice road middle changes → IsLaneChangePhase None dice road middle changes
  from : IsLaneChangePhase None dice road middle changes → IsLaneChangePhase change dice road middle changes

rickert_as_none : (change : Option CheckedProgram) (dice : Dice) (road middle : Cells) (changes : ℕ) → IsLegal road → length road.lanes ≡ 2
    → MatchOption change ⊥ (IsChangeComputing (rickert_crosses 0) (rickert_program 0)) → AsNone change dice road middle changes
rickert_as_none None dice road middle changes legal two is = absurd is
rickert_as_none (Some change) dice road middle changes legal two is = record {
  to = as_none change is.changes dice road legal two middle changes;
  from = from_none change is.changes dice road legal two middle changes;
}

pub rickert_without_change : RickertReducesToNasch
rickert_without_change p rule other rickert nasch dice road next tally legal two = (
  step_alike rule other dice road next tally legal
      (λ middle phase.
      let none = (rickert_as_none rule.change dice road middle tally.changes legal two rickert.change).to phase in
      subst (λ (c : Option CheckedProgram). IsLaneChangePhase c dice road middle tally.changes) (sym nasch.change) none)
      (λ middle is phase. motion_alike (nasch_speed p) (nasch_speed p) rule.motion other.motion rickert.motion.moves nasch.motion.moves (λ view words. refl) dice middle next is phase),
  step_alike other rule dice road next tally legal
      (λ middle phase.
      let none = subst (λ (c : Option CheckedProgram). IsLaneChangePhase c dice road middle tally.changes) nasch.change phase in
      (rickert_as_none rule.change dice road middle tally.changes legal two rickert.change).from none)
      (λ middle is phase. motion_alike (nasch_speed p) (nasch_speed p) other.motion rule.motion nasch.motion.moves rickert.motion.moves (λ view words. refl) dice middle next is phase),
)

-- a run under one of two rules that act alike
record RunAlike (other : Programs) (seed : Seed) (step : ℕ) (road : Cells) (sum : StepTally) : Type 0 where
  like : IsLegalLike seed.road road
  comes : ComesTo seed ((0, other) ∷ []) step road sum

run_alike : (rule other : Programs) (seed : Seed) (step : ℕ) (road : Cells) (sum : StepTally) → IsLegal seed.road
    → HaveSameSteps (length seed.road.lanes) rule other → ComesTo seed ((0, rule) ∷ []) step road sum → RunAlike other seed step road sum
run_alike rule other seed zero road sum legal alike comes = record {
  like = subst (IsLegalLike seed.road) (sym comes.1) (like_itself seed.road legal);
  comes = ((refl, tt), comes.1, comes.2);
}
run_alike rule other seed (suc step) road sum legal alike comes =
    let before = comes.0 in
    let on = comes.5 in
    let tally = comes.3 in
    let way = run_alike rule other seed step before comes.1 legal alike comes.4 in
    let same = one_rule rule comes.2 step on.under in
    let next = subst (λ (r : Programs). IsNext r (dice_at seed step) before road tally) (sym same) on.next in
    let also = (alike (dice_at seed step) before road tally way.like.legal way.like.same_lanes).0 next in
    record {
      like = like_next seed.road before road way.like (next_legal_like rule (dice_at seed step) before road tally way.like.legal next);
      comes = (before, comes.1, other, tally, way.comes, record { under = in_force_one other step; next = also; counted = on.counted });
    }

pub runs_alike : SameStepsGiveSameRuns
runs_alike rule other seed step road sum legal alike comes = (run_alike rule other seed step road sum legal alike comes).comes
