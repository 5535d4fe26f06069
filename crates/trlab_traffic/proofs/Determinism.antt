-- Rules that leave nothing to chance lead to one road for all dice, and their runs become periodic.
use Rattle.std.proofs.Common.{◌≡◌, ℕ, zero, suc, ◌/◌, ◌^◌, ◌<◌, ◌⊎◌, cond, Option, Some, None, List, [], ◌∷◌}
use Rattle.std.proofs.Common.{refl, sym, ◌∙◌, ap, subst, inl, inr, arith, ◌+◌, ◌-◌, ◌*◌, length, get_or, All}
use Rattle.std.proofs.Common.{IfSome, nat_lt, slice_get, slice_index, sum_by, le-ltb, lt-ltb, ext_get_or}
use Rattle.std.proofs.lemmas.Option.{get_or_from_slice_get, slice_get_within, some_pair_parts}
use Rattle.std.proofs.lemmas.{List.Sums.sum_by-cons, Nat.{mul-add-lt, same_from_place}}
use Rattle.trlab_bounds.specs.declared.programs.TheConstants.{CERTAIN}
use Rattle.trlab_words.proofs.RandomWords.{random_words_small}
use Rattle.trlab_code.specs.declared.program.Kind.{Kind, TheVariants.{Change, Motion}}
use Rattle.trlab_code.specs.declared.{instruction.Instr.{Instr, TheVariants.Draw}, view.View.View}
use Rattle.trlab_code.specs.Machine.{Answer, At, Done, EndsFrom, EndsWith, Flag, Goes, MachineState, Store}
use Rattle.trlab_code.specs.Machine.{Stuck, Writes, allows, effect, execute, start, state_after, step}
use Rattle.trlab_code.specs.Program.{Program}
use Rattle.trlab_road.specs.Cells.{Cells, Cell, Lane, IsAt, at, cars, lane_of, IsLegal}
use Rattle.trlab_road.{specs.declared.car.Car.Car, proofs.{MotionLaws.on_lane, Ring.{car_in, inside}}}
use Rattle.trlab_rules.specs.{Standard.nasch_program, Rules.Programs}
use Rattle.trlab_machine.specs.{declared.dice.Dice.Dice, Blocks.words_of, Answers.crossing_answer}
use Rattle.trlab_verify.specs.Verified.{CheckedProgram}
use Rattle.trlab_step.specs.{Answers.{change_view_of, motion_view_of}, Next.IsLaneChangePhase}
use Rattle.trlab_step.specs.{Next.{IsMotionPhase, IsNext}, Run.{dice_at, IsRoadAt, Seed, IsRuleFor}}
use Rattle.trlab_step.{specs.Run.IsSheetFor, proofs.RunLaws.{force_all, road_at_is_one, run_comes_to_road}}
use Rattle.trlab_step.proofs.NextLaws.{next_road_is_unique}
use Rattle.trlab_traffic.specs.Terms.{all_cells, lane_cells, always}
use Rattle.trlab_traffic.specs.Invariance.{HasOneOutcome, IsDeterministic}
use Rattle.trlab_traffic.specs.Invariance.{NaschWithoutRandomizationIsDeterministic, RunIsDeterministic}
use Rattle.trlab_traffic.specs.Invariance.{StepIsDeterministic, DeterministicRunsBecomePeriodic}
use Rattle.trlab_traffic.proofs.{Lanes.run_lanes, FreeFlow.one_rule, Courses.started, Fastest.always_so}
use Rattle.trlab_traffic.proofs.Pigeonhole.{number, number_below, pigeonhole, same_digits}

-- a probability of 0 or 1: the event happens on all words of 32 bits, or on none
same_drawn : (chance a b : ℕ) → (chance ≡ 0) ⊎ (chance ≡ CERTAIN) → a < 2 ^ 32 → b < 2 ^ 32 → nat_lt (a / 2) chance ≡ nat_lt (b / 2) chance
same_drawn chance a b is low high =
    elim is [
      | inl none ↦ le-ltb (a / 2) chance (omega (arith, none)) ∙ sym (le-ltb (b / 2) chance (omega (arith, none)))
      | inr certain ↦ lt-ltb (a / 2) chance (omega (arith, certain, low)) ∙ sym (lt-ltb (b / 2) chance (omega (arith, certain, high)))
    ]

-- words of 32 bits
abbrev Small : List ℕ → Type 0
Small words = (k : ℕ) → slice_index words k < 2 ^ 32

module _ (kind : Kind) (view : View) (words others : List ℕ) (small : Small words) (small_others : Small others) where
  same_effect : (s : Store) (instr : Instr) → HasOneOutcome instr → effect view words s instr ≡ effect view others s instr
  same_effect s (Draw d k t) is = ap (λ b. Writes d (Flag b)) (same_drawn t (slice_index words k) (slice_index others k) is (small k) (small_others k))
  same_effect s instr is = refl

  same_fetched : (pc : ℕ) (s : Store) (found : Option Instr) → ((instr : Instr) → found ≡ Some instr → HasOneOutcome instr) → execute kind view words pc s found ≡ execute kind view others pc s found
  same_fetched pc s None one = refl
  same_fetched pc s (Some instr) one = ap (λ e. cond (allows kind instr) (state_after pc s e) Stuck) (same_effect s instr (one instr refl))

  module _ (code : List Instr) (all : All HasOneOutcome code) where
    outcome_at : (pc : ℕ) (instr : Instr) → slice_get code pc ≡ Some instr → HasOneOutcome instr
    outcome_at pc instr here = subst HasOneOutcome (get_or_from_slice_get code pc instr instr here) (all pc instr (slice_get_within code pc instr here))

    same_step : (pc : ℕ) (s : Store) → step kind code view words pc s ≡ step kind code view others pc s
    unfolding step
    same_step pc s = same_fetched pc s (slice_get code pc) (outcome_at pc)

    same_end : (state : MachineState) (answer : Answer) (n : ℕ) → EndsFrom kind code view words state answer n → EndsFrom kind code view others state answer n
    same_end state answer zero ends = ends
    same_end (At pc s) answer (suc n) ends =
        same_end (step kind code view others pc s) answer n (subst (λ z. EndsFrom kind code view words z answer n) (same_step pc s) ends)
    same_end (Done other) answer (suc n) ends = absurd ends
    same_end Stuck answer (suc n) ends = absurd ends

-- the random words of a car are words of 32 bits
car_words_small : (dice : Dice) (number : ℕ) → Small (words_of dice number)
car_words_small dice number k = random_words_small dice.key dice.road number dice.step k

-- so a program ends the same for all dice
ends_for_all : (kind : Kind) (code : List Instr) (view : View) (dice other : Dice) (number : ℕ) (answer : Answer) (n : ℕ) → All HasOneOutcome code
    → EndsWith kind code view (words_of dice number) answer n → EndsWith kind code view (words_of other number) answer n
ends_for_all kind code view dice other number answer n all ends =
    same_end kind view (words_of dice number) (words_of other number) (car_words_small dice number) (car_words_small other number) code all (At 0 (start kind view)) answer n ends

motion_for_all : (motion : CheckedProgram) (dice other : Dice) (road next : Cells) → All HasOneOutcome motion.program.instrs → IsMotionPhase motion dice road next → IsMotionPhase motion other road next
motion_for_all motion dice other road next all phase = (
  phase.0,
  record {
    each = λ car here.
        let answer = phase.1.each car here in
        (answer.0, ends_for_all Motion motion.program.instrs (motion_view_of road car) dice other car.number (Goes (phase.0 car.lane car.place)) answer.0 all answer.1);
  },
  phase.2,
)

change_for_all : (change : Option CheckedProgram) (dice other : Dice) (road middle : Cells) (changes : ℕ) → IfSome change (λ (c : CheckedProgram). All HasOneOutcome c.program.instrs)
    → IsLaneChangePhase change dice road middle changes → IsLaneChangePhase change other road middle changes
change_for_all None dice other road middle changes all phase = phase
change_for_all (Some change) dice other road middle changes all phase = (
  phase.0,
  phase.1,
  record {
    each = λ car here.
        let answer = phase.2.each car here in
        (answer.0, ends_for_all Change change.program.instrs (change_view_of road car) dice other car.number (crossing_answer (phase.1 car.lane car.place)) answer.0 all answer.1);
  },
  phase.3,
  phase.4,
)

pub step_is_deterministic : StepIsDeterministic
step_is_deterministic rule dice other road next tally certain is = (
  is.0,
  record {
    lane_change = change_for_all rule.change dice other road is.0 tally.changes certain.change is.1.lane_change;
    motion = motion_for_all rule.motion dice other is.0 next certain.motion is.1.motion;
    distance = is.1.distance;
    stopped = is.1.stopped;
  },
)

pub run_is_deterministic : RunIsDeterministic
run_is_deterministic seed key number sheet zero road sum all comes = comes
run_is_deterministic seed key number sheet (suc step) road sum all comes =
    let before = comes.0 in
    let rule = comes.2 in
    let tally = comes.3 in
    let on = comes.5 in
    let certain = force_all IsDeterministic sheet step rule all on.under in (
      before,
      comes.1,
      rule,
      tally,
      run_is_deterministic seed key number sheet step before comes.1 all comes.4,
      record {
        under = on.under;
        next = step_is_deterministic rule (dice_at seed step) (dice_at (record seed { key = key; number = number }) step) before road tally certain on.next;
        counted = on.counted;
      },
    )

-- the property of each instruction, one by one
abbrev EachOne : List Instr → Type 0
EachOne [] = Unit {0}
EachOne (instr ∷ code) = HasOneOutcome instr × EachOne code

all_of : (code : List Instr) → EachOne code → All HasOneOutcome code
all_of [] each k d below = absurd (omega (arith, below))
all_of (instr ∷ code) each zero d below = each.0
all_of (instr ∷ code) each (suc k) d below = all_of code each.1 k d (omega (arith, below))

nasch_certain : All HasOneOutcome (nasch_program 0).instrs
nasch_certain = all_of (nasch_program 0).instrs (tt, (tt, (tt, (tt, (tt, (tt, (tt, (inl refl, (tt, (tt, (tt, (tt, tt))))))))))))

no_change : (change : Option CheckedProgram) → change ≡ None → IfSome change (λ (c : CheckedProgram). All HasOneOutcome c.program.instrs)
no_change change none = subst (λ (o : Option CheckedProgram). IfSome o (λ (c : CheckedProgram). All HasOneOutcome c.program.instrs)) (sym none) tt

pub nasch_without_randomization : NaschWithoutRandomizationIsDeterministic
nasch_without_randomization rule is = record {
  motion = subst (λ (p : Program). All HasOneOutcome p.instrs) (sym is.motion.same) nasch_certain;
  change = no_change rule.change is.change;
}

-- Runs under deterministic rules become periodic, because a road has only finitely many states.

-- two cells with the same cars are equal
same_cell : (c d : Cell) → ((number speed : ℕ) → c ≡ Some (number, speed) → d ≡ Some (number, speed)) → ((number speed : ℕ) → d ≡ Some (number, speed) → c ≡ Some (number, speed)) → c ≡ d
same_cell None None f g = refl
same_cell None (Some car) f g = g car.0 car.1 refl
same_cell (Some car) d f g = sym (f car.0 car.1 refl)

one_car : {a b x y : ℕ} → a ≡ b → x ≡ y → ◌≡◌ {A = Cell} (Some (a, x)) (Some (b, y))
one_car e f = cc

-- a road of a limit and lanes
abbrev made : ℕ → List Lane → Cells
made limit lanes = record { limit = limit; lanes = lanes }

-- a legal road with these numbers of lanes, cells per lane and cars, and this limit
pub record IsOf (lanes cells limit n : ℕ) (road : Cells) : Type 0 where
  legal : IsLegal road
  count : length road.lanes ≡ lanes
  size : (l : ℕ) → l < lanes → length (lane_of road l) ≡ cells
  same_limit : road.limit ≡ limit
  same_cars : cars road ≡ n

module _ (lanes cells limit n : ℕ) where
  -- the cell and the speed of a car as one number
  abbrev state : Car → ℕ
  state car = (car.lane * cells + car.place) * (limit + 1) + car.speed

  -- the number of states of a car
  abbrev base : ℕ
  base = lanes * cells * (limit + 1)

  -- the lane, the place and the speed of a car are in range
  record InRange (car : Car) : Type 0 where
    on : car.lane < lanes
    low : car.place < cells
    slow : car.speed < limit + 1

  in_range : (road : Cells) → IsOf lanes cells limit n road → (car : Car) → IsAt road car → InRange car
  in_range road is car here =
      let on = on_lane road car.lane car.place (car.number, car.speed) here in
      let count = is.count in
      let low = inside (lane_of road car.lane) car.place (car.number, car.speed) here in
      let size = is.size car.lane (omega (arith, on, count)) in
      let fast = is.legal.within_limit car here in
      let same = is.same_limit in
      record { on = omega (arith, on, count); low = omega (arith, low, size); slow = omega (arith, fast, same) }

  state_below : (car : Car) → InRange car → state car < base
  state_below car range =
      let place : car.lane * cells + car.place < cells * lanes = mul-add-lt car.lane cells car.place lanes range.on range.low in
      let all = mul-add-lt (car.lane * cells + car.place) (limit + 1) car.speed (cells * lanes) place range.slow in
      let e : (limit + 1) * (cells * lanes) ≡ base = omega arith in
      subst (λ k. state car < k) e all

  -- cars with the same state are in the same cell, at the same speed
  record SamePlace (car other : Car) : Type 0 where
    lane : car.lane ≡ other.lane
    place : car.place ≡ other.place
    speed : car.speed ≡ other.speed

  same_place : (car other : Car) → InRange car → InRange other → state car ≡ state other → SamePlace car other
  same_place car other a b same =
      let parts = same_from_place (car.lane * cells + car.place) car.speed (other.lane * cells + other.place) other.speed (limit + 1) a.slow b.slow same in
      let places = same_from_place car.lane car.place other.lane other.place cells a.low b.low parts.0 in
      record { lane = places.0; place = places.1; speed = parts.1 }

  -- the state of a road: the states of its cars as digits
  abbrev state_of : (road : Cells) → IsLegal road → ℕ
  state_of road legal = number base n (λ i. state ((started road legal).car i))

  -- the car of a number
  car_range : (road : Cells) (is : IsOf lanes cells limit n road) (i : ℕ) → i < n → InRange ((started road is.legal).car i)
  car_range road is i low =
      let same = is.same_cars in
      in_range road is ((started road is.legal).car i) ((started road is.legal).stands i (omega (arith, low, same)))

  pub state_low : (road : Cells) (is : IsOf lanes cells limit n road) → state_of road is.legal < base ^ n
  state_low road is = number_below base n (λ i. state ((started road is.legal).car i)) (λ i low. state_below ((started road is.legal).car i) (car_range road is i low))

  module _ (road other : Cells) (a : IsOf lanes cells limit n road) (b : IsOf lanes cells limit n other) (same : state_of road a.legal ≡ state_of other b.legal) where
    -- the second of two roads with the same state has each car of the first
    kept : (l x number speed : ℕ) → at (lane_of road l) x ≡ Some (number, speed) → at (lane_of other l) x ≡ Some (number, speed)
    kept l x number speed here =
        let mine = started road a.legal in
        let yours = started other b.legal in
        let car = car_in l x number speed in
        let below = a.legal.numbered car here in
        let count = a.same_cars in
        let count_b = b.same_cars in
        let low : number < n = omega (arith, below, count) in
        let high : number < cars other = omega (arith, low, count_b) in
        let one = mine.car number in
        let two = yours.car number in
        let there = mine.stands number below in
        let once = a.legal.once one car there here (mine.numbered number below) in
        let digits = same_digits base n (λ i. state (mine.car i)) (λ i. state (yours.car i)) (λ i h. state_below (mine.car i) (car_range road a i h)) (λ i h. state_below (yours.car i) (car_range other b i h)) same in
        let place = same_place one two (car_range road a number low) (car_range other b number low) (digits number low) in
        let of_mine : at (lane_of road l) x ≡ Some (one.number, one.speed) = ap (λ k. at (lane_of road k) x) (sym once.0) ∙ ap (at (lane_of road one.lane)) (sym once.1) ∙ there in
        let pair = some_pair_parts number one.number speed one.speed (sym here ∙ of_mine) in
        let at_two : at (lane_of other l) x ≡ at (lane_of other two.lane) two.place = ap (λ k. at (lane_of other k) x) (sym once.0 ∙ place.lane) ∙ ap (at (lane_of other two.lane)) (sym once.1 ∙ place.place) in
        let is_two = yours.stands number high in
        let named : two.number ≡ number = yours.numbered number high in
        let same_speed : two.speed ≡ speed = sym (pair.1 ∙ place.speed) in
        at_two ∙ is_two ∙ one_car named same_speed

  -- roads with the same state are equal
  same_road : (road other : Cells) (a : IsOf lanes cells limit n road) (b : IsOf lanes cells limit n other) → state_of road a.legal ≡ state_of other b.legal → road ≡ other
  same_road road other a b same =
      let cells_same : road.lanes ≡ other.lanes = ext_get_or [] road.lanes other.lanes (a.count ∙ sym b.count) (λ l low.
      let count = a.count in
      let on : l < lanes = omega (arith, low, count) in
      ext_get_or None (lane_of road l) (lane_of other l) (a.size l on ∙ sym (b.size l on))
      (λ x h. same_cell (at (lane_of road l) x) (at (lane_of other l) x) (λ number speed. kept road other a b same l x number speed) (λ number speed. kept other road b a (sym same) l x number speed))) in
      ap (λ p. made p road.lanes) (a.same_limit ∙ sym b.same_limit) ∙ ap (made other.limit) cells_same

-- lanes of one length
equal_cells : (lanes : List Lane) (n : ℕ) → ((l : ℕ) → l < length lanes → length (get_or lanes l []) ≡ n) → sum_by lane_cells lanes ≡ length lanes * n
equal_cells [] n each = omega arith
equal_cells (lane ∷ lanes) n each =
    let first : length lane ≡ n = each 0 (omega arith) in
    let rest = equal_cells lanes n (λ l low. each (suc l) (omega (arith, low))) in
    let split = sum_by-cons lane_cells lane lanes in
    omega (arith, first, rest, split)

module _ (rule : Programs) (seed : Seed) (certain : IsDeterministic rule) (is : IsRuleFor (length seed.road.lanes) rule) (legal : IsLegal seed.road) where
  -- the road of a step
  record RoadOf (step : ℕ) : Type 0 where
    road : Cells
    comes : IsRoadAt seed (always rule) step road
    like : IsOf (length seed.road.lanes) (length (lane_of seed.road 0)) seed.road.limit (cars seed.road) road

  abbrev sheet : IsSheetFor (length seed.road.lanes) (always rule)
  sheet = record { is_sheet = (refl, tt); rules = always_so (IsRuleFor (length seed.road.lanes)) rule is }

  road_of : (step : ℕ) → RoadOf step
  road_of step =
      let there = run_comes_to_road seed (always rule) step legal sheet in
      let lanes = run_lanes seed (always rule) step there.0 there.1 there.2 in
      record {
        road = there.0;
        comes = (there.1, there.2);
        like = record {
          legal = there.3.legal;
          count = there.3.same_lanes;
          size = λ l low. lanes.size l low ∙ legal.shape.equal l low;
          same_limit = there.3.same_limit;
          same_cars = there.3.same_count;
        };
      }

  -- if a road occurs again, so do all later roads
  module _ (early late : ℕ) (same : (road_of early).road ≡ (road_of late).road) where
    again : (k step last : ℕ) (road later : Cells) → step ≡ k + early → last ≡ k + late → IsRoadAt seed (always rule) step road → IsRoadAt seed (always rule) last later → later ≡ road
    again zero step last road later e f a b =
        let first : step ≡ early = omega (arith, e) in
        let second : last ≡ late = omega (arith, f) in
        road_at_is_one seed (always rule) late later (road_of late).road (subst (λ k. IsRoadAt seed (always rule) k later) second b) (road_of late).comes
        ∙ sym same
        ∙ road_at_is_one seed (always rule) early (road_of early).road road (road_of early).comes (subst (λ k. IsRoadAt seed (always rule) k road) first a)
    again (suc k) zero last road later e f a b = absurd (omega (arith, e))
    again (suc k) (suc step) zero road later e f a b = absurd (omega (arith, f))
    again (suc k) (suc step) (suc last) road later e f a b =
        let before = a.1.0 in
        let mine = subst (λ (r : Programs). IsNext r (dice_at seed step) before road a.1.3) (sym (one_rule rule a.1.2 step a.1.5.under)) a.1.5.next in
        let yours = subst (λ (r : Programs). IsNext r (dice_at seed last) b.1.0 later b.1.3) (sym (one_rule rule b.1.2 last b.1.5.under)) b.1.5.next in
        let meet = again k step last before b.1.0 (omega (arith, e)) (omega (arith, f)) (a.1.1, a.1.4) (b.1.1, b.1.4) in
        let from = subst (λ (r : Cells). IsNext rule (dice_at seed last) r later b.1.3) meet yours in
        let other = step_is_deterministic rule (dice_at seed last) (dice_at seed step) before later b.1.3 certain from in
        (next_road_is_unique rule (dice_at seed step) before later road b.1.3 a.1.3 other mine).0

pub deterministic_runs_become_periodic : DeterministicRunsBecomePeriodic
deterministic_runs_become_periodic rule seed certain is legal =
    let lanes = length seed.road.lanes in
    let cells = length (lane_of seed.road 0) in
    let limit = seed.road.limit in
    let n = cars seed.road in
    let roads : (step : ℕ) → RoadOf rule seed certain is legal step = road_of rule seed certain is legal in
    let count = base lanes cells limit n ^ n in
    let twice = pigeonhole count (λ step. state_of lanes cells limit n (roads step).road (roads step).like.legal) (λ step low. state_low lanes cells limit n (roads step).road (roads step).like) in
    let same = same_road lanes cells limit n (roads twice.early).road (roads twice.late).road (roads twice.early).like (roads twice.late).like twice.same in
    let order = twice.order in
    let within = twice.within in
    let all : all_cells seed.road ≡ lanes * cells = equal_cells seed.road.lanes cells legal.shape.equal in
    let bound : count ≡ (all_cells seed.road * (limit + 1)) ^ n = ap (λ k. (k * (limit + 1)) ^ n) (sym all) in (
      twice.early,
      twice.late - twice.early,
      record {
        some_step = omega (arith, order);
        comes_again = λ step road later past a b.
            again rule seed certain is legal twice.early twice.late same (step - twice.early) step (step + (twice.late - twice.early)) road later (omega (arith, past)) (omega (arith, past, order)) a b;
      },
      omega (arith, order, within, bound),
    )
