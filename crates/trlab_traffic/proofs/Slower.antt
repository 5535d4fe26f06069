-- Cars that brake with a larger probability go no further.
use Rattle.trlab_step.{proofs.SumsOverCars.stopped_cars-moved, specs.Next.{IsNext, stopped_cars}}
use Rattle.trlab_step.specs.{declared.tally.StepTally.StepTally, Answers.{motion_view_of, AnswersSpeeds}}
use Rattle.trlab_rules.specs.Rules.{Programs}
use Rattle.trlab_rules.specs.Published.{brake, nasch_speed, safe_speed, vdr_braking_chance, vdr_speed}
use Rattle.trlab_road.{proofs.MotionInOrder.{answer_at, moves_by}, specs.declared.car.Car.Car}
use Rattle.trlab_road.proofs.StandingOrder.{length-standing_from_lane, standing_cell, in_order_at}
use Rattle.trlab_road.specs.{Motion.{Fits, Moves, in_order}, Cells.{IsAt, AgreeAtCars, Cells, standing}}
use Rattle.trlab_machine.specs.{declared.dice.Dice.Dice, Blocks.words_of}
use Rattle.std.proofs.Common.{◌≡◌, ℕ, suc, ◌+◌, ◌/◌, ◌≤◌, Bool, true, false, List, [], ◌∷◌, length, get_or}
use Rattle.std.proofs.Common.{refl, sym, ◌∙◌, ap, inl, inr, arith, cond, map, None, if◌then◌else◌, All}
use Rattle.std.proofs.Common.{sum_by, nat_eq, slice_index, le-ltb, lt-ltb, eq-eqb, ne_eqb}
use Rattle.std.proofs.lemmas.{Bool.{cases_lt, cases_eq}, List.Sums.sum_by-cons}
use Rattle.trlab_words.specs.Words.{happens_on}
use Rattle.trlab_traffic.specs.Comparison.{RandomizationSlowsSteps, IsNoFasterStep, SlowStartsSlowSteps}
use Rattle.trlab_traffic.proofs.Steps.{answers_fit, answered, motion_alone}
use Rattle.trlab_traffic.proofs.Capacities.{speeds_total, may_move}

-- two values for a car: the first is at most the second, and at most one smaller
record Below (f g : Car → ℕ) (car : Car) : Type 0 where
  least : f car ≤ g car
  most : g car ≤ f car + 1

record SumsBelow (f g : Car → ℕ) (xs : List Car) : Type 0 where
  least : sum_by f xs ≤ sum_by g xs
  most : sum_by g xs ≤ sum_by f xs + length xs

sums_below : (f g : Car → ℕ) (xs : List Car) → All (Below f g) xs → SumsBelow f g xs
sums_below f g [] all = record { least = omega arith; most = omega arith }
sums_below f g (x ∷ xs) all =
    let first = all 0 x (omega arith) in
    let least = first.least in
    let most = first.most in
    let rest = sums_below f g xs (λ k d below. all (suc k) d (omega (arith, below))) in
    let rest_least = rest.least in
    let rest_most = rest.most in
    let a = sum_by-cons f x xs in
    let b = sum_by-cons g x xs in
    record { least = omega (arith, least, rest_least, a, b); most = omega (arith, most, rest_most, a, b) }

-- a car that brakes with a probability also brakes with a larger one
record Brakes (p q word speed : ℕ) : Type 0 where
  least : brake (happens_on q word) speed ≤ brake (happens_on p word) speed
  most : brake (happens_on p word) speed ≤ brake (happens_on q word) speed + 1

brakes_by : (a b : Bool) (speed : ℕ) → (a ≡ true → b ≡ true) → (brake b speed ≤ brake a speed) × (brake a speed ≤ brake b speed + 1)
brakes_by true true speed so = (omega arith, omega arith)
brakes_by true false speed so = let e = so refl in absurd cc
brakes_by false true speed so = (omega arith, omega arith)
brakes_by false false speed so = (omega arith, omega arith)

pub more_happens : (p q word : ℕ) → p ≤ q → happens_on p word ≡ true → happens_on q word ≡ true
more_happens p q word more is =
    elim (cases_lt (word / 2) p) [
      | inl below ↦ lt-ltb (word / 2) q (omega (arith, below, more))
      | inr past ↦ let e = sym is ∙ le-ltb (word / 2) p past in absurd cc
    ]

brakes : (p q word speed : ℕ) → p ≤ q → Brakes p q word speed
brakes p q word speed more =
    let both = brakes_by (happens_on p word) (happens_on q word) speed (more_happens p q word more) in
    record { least = both.0; most = both.1 }

-- a sum over a mapped list
mapped : (g : ℕ → ℕ) (f : Car → ℕ) (xs : List Car) → sum_by g (map f xs) ≡ sum_by (λ (car : Car). g (f car)) xs
mapped g f [] = refl
mapped g f (x ∷ xs) =
    let rest = mapped g f xs in
    let a = sum_by-cons g (f x) (map f xs) in
    let b = sum_by-cons (λ (car : Car). g (f car)) x xs in
    omega (arith, rest, a, b)

-- the number of stopped cars after a motion, by the answers before it
stopped_total : (speeds : ℕ → ℕ → ℕ) (road next : Cells) → Fits speeds road → Moves speeds road next → stopped_cars next ≡ sum_by (λ (car : Car). cond (nat_eq (speeds car.lane car.place) 0) 1 0) (standing road)
stopped_total speeds road next fits moves =
    let answers = in_order speeds road in
    let agree : AgreeAtCars speeds (answer_at road answers) road = λ car here. sym (in_order_at speeds 0 road car.lane car.place car.number car.speed here) in
    stopped_cars-moved road next answers (may_move speeds road fits) (moves_by speeds (answer_at road answers) road next agree moves)
    ∙ mapped (λ s. cond (nat_eq s 0) 1 0) (λ (car : Car). speeds car.lane car.place) (standing road)

sums_le : (f g : Car → ℕ) (xs : List Car) → All (λ car. f car ≤ g car) xs → sum_by f xs ≤ sum_by g xs
sums_le f g [] all = omega arith
sums_le f g (x ∷ xs) all =
    let first = all 0 x (omega arith) in
    let rest = sums_le f g xs (λ k d below. all (suc k) d (omega (arith, below))) in
    let a = sum_by-cons f x xs in
    let b = sum_by-cons g x xs in
    omega (arith, first, rest, a, b)

-- a car that stops also stops if it is slower
pub stops_too : (slow fast : ℕ) → slow ≤ fast → cond (nat_eq fast 0) 1 0 ≤ cond (nat_eq slow 0) 1 0
stops_too slow fast less =
    let count : Bool → ℕ = λ b. cond b 1 0 in
    elim (cases_eq fast 0) [
      | inl e ↦
          let a = ap count (eq-eqb fast 0 e) in
          let b = ap count (eq-eqb slow 0 (omega (arith, e, less))) in
          omega (arith, a, b)
      | inr moving ↦ let a = ap count (ne_eqb fast 0 moving) in omega (arith, a)
    ]

-- of two steps of a road, the one in which each car is slower, by at most one cell
slower : (light heavy : Programs) (dice : Dice) (road next other : Cells) (fast slow : StepTally) → light.change ≡ None → heavy.change ≡ None
    → IsNext light dice road next fast → IsNext heavy dice road other slow
    → ((speeds others : ℕ → ℕ → ℕ) → AnswersSpeeds light.motion dice road speeds → AnswersSpeeds heavy.motion dice road others
    → (car : Car) → IsAt road car → Below (λ (c : Car). others c.lane c.place) (λ (c : Car). speeds c.lane c.place) car)
    → IsNoFasterStep road fast slow
slower light heavy dice road next other fast slow none no_change is also each_car =
    let a = motion_alone light dice road next fast none is in
    let b = motion_alone heavy dice road other slow no_change also in
    let f : Car → ℕ = λ car. b.0 car.lane car.place in
    let g : Car → ℕ = λ car. a.0 car.lane car.place in
    let fits = answers_fit light.motion dice road a.0 a.1 in
    let fits_slow = answers_fit heavy.motion dice road b.0 b.1 in
    let total = is.1.distance ∙ speeds_total a.0 road next fits a.2 in
    let total_slow = also.1.distance ∙ speeds_total b.0 road other fits_slow b.2 in
    let stop = is.1.stopped ∙ stopped_total a.0 road next fits a.2 in
    let stop_slow = also.1.stopped ∙ stopped_total b.0 road other fits_slow b.2 in
    let count = length-standing_from_lane 0 road.lanes in
    let each : All (Below f g) (standing road) = λ k d below. each_car a.0 b.0 a.1 b.1 (get_or (standing road) k d) (standing_cell road k d (omega (arith, below, count))) in
    let sums = sums_below f g (standing road) each in
    let least = sums.least in
    let most = sums.most in
    let stops = sums_le (λ (car : Car). cond (nat_eq (g car) 0) 1 0) (λ (car : Car). cond (nat_eq (f car) 0) 1 0) (standing road)
    (λ k d below. let car = get_or (standing road) k d in stops_too (f car) (g car) (each k d below).least) in
    record {
      no_further = omega (arith, least, total, total_slow);
      cell_each = omega (arith, most, total, total_slow, count);
      no_fewer_stop = omega (arith, stops, stop, stop_slow);
    }

pub randomization_slows : RandomizationSlowsSteps
randomization_slows p q light heavy dice road next other fast slow more is_light is_heavy legal is also =
    slower light heavy dice road next other fast slow is_light.change is_heavy.change is also (λ speeds others a b car here.
    let view = motion_view_of road car in
    let words = words_of dice car.number in
    let one = answered (nasch_speed p) light.motion dice road speeds is_light.motion.moves legal a car here in
    let two = answered (nasch_speed q) heavy.motion dice road others is_heavy.motion.moves legal b car here in
    let both = brakes p q (slice_index words 0) (safe_speed view.speed view.limit view.gap) more in
    let least = both.least in
    let most = both.most in
    record { least = omega (arith, one, two, least); most = omega (arith, one, two, most) })

more_chance : (b : Bool) (p q p0 q0 : ℕ) → p ≤ q → p0 ≤ q0 → (if b then p0 else p) ≤ (if b then q0 else q)
more_chance true p q p0 q0 more more0 = more0
more_chance false p q p0 q0 more more0 = more

pub slow_starts_slow : SlowStartsSlowSteps
slow_starts_slow p q p0 q0 light heavy dice road next other fast slow more more0 is_light is_heavy legal is also =
    slower light heavy dice road next other fast slow is_light.change is_heavy.change is also (λ speeds others a b car here.
    let view = motion_view_of road car in
    let words = words_of dice car.number in
    let one = answered (vdr_speed p p0) light.motion dice road speeds is_light.motion.moves legal a car here in
    let two = answered (vdr_speed q q0) heavy.motion dice road others is_heavy.motion.moves legal b car here in
    let chance = more_chance (nat_eq view.speed 0) p q p0 q0 more more0 in
    let both = brakes (vdr_braking_chance p p0 view.speed) (vdr_braking_chance q q0 view.speed) (slice_index words 0) (safe_speed view.speed view.limit view.gap) chance in
    let least = both.least in
    let most = both.most in
    record { least = omega (arith, one, two, least); most = omega (arith, one, two, most) })
