-- Steps and runs compared car by car: which rule is faster, and how much random braking and lane changes
-- cost. Laws: `randomization_slows`, `safe_lane_changes_cost_nobody`, `nobody_beats_nasch`,
-- `nobody_beats_gap`, `randomization_slows_runs`, `nasch_is_attractive`.
use Rattle.std.specs.Prelude.{◌≡◌, ℕ, ◌+◌, ◌<◌, ◌≤◌, IfSome, List, [], ◌∷◌, length, min}
use Rattle.trlab_code.specs.declared.instruction.{Input.TheVariants.{Gap, Limit}, Instr.TheVariants.{Get, Go}}
use Rattle.trlab_code.specs.declared.instruction.{Instr.TheVariants.Min, Register.TheVariants.{R0, R1}}
use Rattle.trlab_code.specs.declared.{program.Kind.TheVariants.{Change, Motion}, view.View.View}
use Rattle.trlab_code.specs.{Machine.{Crosses, Goes, EndsWith}, Program.Program, Views.IsViewInRange}
use Rattle.trlab_road.specs.{declared.car.Car.Car, Cells.{Cells, IsAt, lane_of, cars, IsLegal}}
use Rattle.trlab_road.specs.Gaps.{ahead, gap}
use Rattle.trlab_rules.specs.Rules.{ComputesSpeed, Programs, IsNasch, IsVdr, IsRickert}
use Rattle.trlab_rules.specs.Published.{nasch_speed, vdr_speed}
use Rattle.trlab_machine.specs.declared.dice.Dice.{Dice}
use Rattle.trlab_verify.specs.Verified.{CheckedProgram}
use Rattle.trlab_step.specs.{declared.tally.StepTally.StepTally, Next.IsNext}
use Rattle.trlab_step.specs.Run.{Seed, Sheet, ComesTo, IsRoadAt}
use Rattle.trlab_traffic.specs.Terms.{EachRule, StaysInLane, always, seed_from}
use Rattle.trlab_traffic.specs.Following.{HasGone, IsNextOf}

-- Randomization slows a step: with a larger probability of braking the cars move less far, by at most one
-- cell each, and no fewer of them stop.

-- of two steps of a road, the one with the tally `slow` is no faster than the one with `fast`: its distance
-- is not larger, and smaller by at most one cell per car, and no fewer cars stop in it
pub record IsNoFasterStep (road : Cells) (fast slow : StepTally) : Type 0 where
  pub no_further : slow.distance ≤ fast.distance
  pub cell_each : fast.distance ≤ slow.distance + cars road
  pub no_fewer_stop : fast.stopped ≤ slow.stopped

-- in the Nagel-Schreckenberg model a step with braking probability q / 2 ^ 31 is no faster than one with
-- p / 2 ^ 31, if p is at most q; both start from the same legal road, with the same dice
abbrev pub RandomizationSlowsSteps : Type 0
RandomizationSlowsSteps =
    (p q : ℕ) (light heavy : Programs) (dice : Dice) (road next other : Cells) (fast slow : StepTally)
    → p ≤ q → IsNasch p light → IsNasch q heavy → IsLegal road
    → IsNext light dice road next fast → IsNext heavy dice road other slow → IsNoFasterStep road fast slow

-- in the VDR model of Barlovic et al. (1998) a step with braking probabilities q / 2 ^ 31 of moving and
-- q0 / 2 ^ 31 of stopped cars is no faster than one with p / 2 ^ 31 and p0 / 2 ^ 31, if p is at most q and p0
-- at most q0; both start from the same legal road, with the same dice
abbrev pub SlowStartsSlowSteps : Type 0
SlowStartsSlowSteps =
    (p q p0 q0 : ℕ) (light heavy : Programs) (dice : Dice) (road next other : Cells) (fast slow : StepTally)
    → p ≤ q → p0 ≤ q0 → IsVdr p p0 light → IsVdr q q0 heavy → IsLegal road
    → IsNext light dice road next fast → IsNext heavy dice road other slow → IsNoFasterStep road fast slow

-- Lane changes that meet a safety criterion cost nobody: in one step each car goes at least as far as
-- without lane changes (Rickert, Nagel, Schreckenberg and Latour 1996, Physica A 231, 534).

-- the safety criterion for a lane change: on the other lane the gap ahead of the car is larger than its
-- speed, and the gap behind it at least the limit
pub record IsSafeToCross (view : View) : Type 0 where
  pub room_ahead : view.speed < view.sidegap
  pub room_behind : view.limit ≤ view.sideback

-- a change program under which a car crosses only if this is safe, for every view in range and all random
-- words
abbrev pub ChangesSafely : CheckedProgram → Type 0
ChangesSafely change = (view : View) (words : List ℕ) (steps : ℕ)
    → IsViewInRange view → EndsWith Change change.program.instrs view words Crosses steps → IsSafeToCross view

-- a rule whose cars move at this speed, a function of their view and random words, with safe lane changes
-- or none
pub record HasSafeChanges (speed : View → List ℕ → ℕ) (rule : Programs) : Type 0 where
  pub motion : ComputesSpeed speed rule.motion.program
  pub change : IfSome rule.change ChangesSafely

-- the lane changes of Rickert et al. (1996) are safe, for all probabilities p / 2 ^ 31 of braking and
-- c / 2 ^ 31 of a lane change
abbrev pub RickertChangesSafely : Type 0
RickertChangesSafely = (p c : ℕ) (rule : Programs) → IsRickert p c rule → HasSafeChanges (nasch_speed p) rule

-- of two steps of a road, the one to road `fast` is no slower than the one to road `slow`, car by car: each
-- car goes at least as far, so the distance is at least as large, and no more cars stop
pub record IsNoSlowerStep (slow fast : Cells) (slow_tally fast_tally : StepTally) : Type 0 where
  pub each_car : (car same : Car) → IsAt slow car → IsAt fast same → car.number ≡ same.number
      → car.speed ≤ same.speed
  pub all_cars : slow_tally.distance ≤ fast_tally.distance
  pub no_more_stop : fast_tally.stopped ≤ slow_tally.stopped

-- in the Nagel-Schreckenberg model a step with safe lane changes is no slower than one without lane
-- changes, car by car; both start from the same legal road, with the same dice and the same braking
-- probability p / 2 ^ 31
abbrev pub SafeChangesCostNobody : Type 0
SafeChangesCostNobody =
    (p : ℕ) (rule other : Programs) (dice : Dice) (road slow fast : Cells) (slow_tally fast_tally : StepTally)
    → IsNasch p rule → HasSafeChanges (nasch_speed p) other → IsLegal road
    → IsNext rule dice road slow slow_tally → IsNext other dice road fast fast_tally
    → IsNoSlowerStep slow fast slow_tally fast_tally

-- in the VDR model of Barlovic et al. (1998) a step with safe lane changes is no slower than one without
-- lane changes, car by car; both start from the same legal road, with the same dice and the same braking
-- probabilities
abbrev pub SafeChangesCostNobodyInVdr : Type 0
SafeChangesCostNobodyInVdr =
    (p p0 : ℕ) (rule other : Programs) (dice : Dice) (road slow fast : Cells)
    (slow_tally fast_tally : StepTally)
    → IsVdr p p0 rule → HasSafeChanges (vdr_speed p p0) other → IsLegal road
    → IsNext rule dice road slow slow_tally → IsNext other dice road fast fast_tally
    → IsNoSlowerStep slow fast slow_tally fast_tally

-- Runs under different rules, from the same start, with the same key and without lane changes.

-- of two runs from the same start, the run under the sheet `slow` is no faster than the run under `fast`:
-- after `step` steps no car has gone further, and if every step is counted (`warm` is 0), the distance of all
-- cars together is not larger
pub record IsNoFaster (seed : Seed) (slow fast : Sheet) (step : ℕ) : Type 0 where
  pub each_car : (number far most : ℕ)
      → HasGone seed slow step number far → HasGone seed fast step number most → far ≤ most
  pub all_cars : (road other : Cells) (sum most : StepTally) → seed.warm ≡ 0
      → ComesTo seed slow step road sum → ComesTo seed fast step other most → sum.distance ≤ most.distance

-- a rule accelerates by at most one: for every view in range and all random words its motion program answers
-- at most the car's speed plus one
abbrev pub AcceleratesByAtMostOne : Programs → Type 0
AcceleratesByAtMostOne rule =
    (view : View) (words : List ℕ) (speed n : ℕ) → IsViewInRange view
    → EndsWith Motion rule.motion.program.instrs view words (Goes speed) n → speed ≤ view.speed + 1

-- the Nagel-Schreckenberg model accelerates by at most one, for every braking probability p / 2 ^ 31
abbrev pub NaschAcceleratesByAtMostOne : Type 0
NaschAcceleratesByAtMostOne = (p : ℕ) (rule : Programs) → IsNasch p rule → AcceleratesByAtMostOne rule

-- the VDR model of Barlovic et al. (1998) accelerates by at most one, for all braking probabilities
-- p / 2 ^ 31 of moving cars and p0 / 2 ^ 31 of stopped cars
abbrev pub VdrAcceleratesByAtMostOne : Type 0
VdrAcceleratesByAtMostOne = (p p0 : ℕ) (rule : Programs) → IsVdr p p0 rule → AcceleratesByAtMostOne rule

-- a run from a legal road, under any sheet of rules that accelerate by at most one and have no lane changes,
-- is never faster than the run of the Nagel-Schreckenberg model without randomization
abbrev pub NobodyBeatsNasch : Type 0
NobodyBeatsNasch =
    (rule : Programs) (sheet : Sheet) (seed : Seed) (step : ℕ)
    → IsNasch 0 rule → EachRule AcceleratesByAtMostOne sheet → EachRule StaysInLane sheet → IsLegal seed.road
    → IsNoFaster seed sheet (always rule) step

-- a rule without lane changes under which cars reach their speed at once: each moves as far as its gap and
-- the limit allow
pub record ReachesSpeedAtOnce (rule : Programs) : Type 0 where
  pub motion : ComputesSpeed (λ view words. min view.limit view.gap) rule.motion.program
  pub stays : StaysInLane rule

-- the motion program that answers the limit or the car's gap, whichever is smaller
abbrev pub gap_program : Program
gap_program = record { kind = Motion; instrs = Get R0 Limit ∷ Get R1 Gap ∷ Min R0 R0 R1 ∷ Go R0 ∷ [] }

-- a rule without lane changes whose motion program is `gap_program` lets cars reach their speed at once
abbrev pub GapProgramReachesSpeedAtOnce : Type 0
GapProgramReachesSpeedAtOnce =
    (rule : Programs) → rule.motion.program ≡ gap_program → StaysInLane rule → ReachesSpeedAtOnce rule

-- a run from a legal road, under any sheet of rules without lane changes, is never faster than the run under
-- a rule that lets cars reach their speed at once
abbrev pub NobodyBeatsGap : Type 0
NobodyBeatsGap =
    (rule : Programs) (sheet : Sheet) (seed : Seed) (step : ℕ)
    → ReachesSpeedAtOnce rule → EachRule StaysInLane sheet → IsLegal seed.road
    → IsNoFaster seed sheet (always rule) step

-- in the Nagel-Schreckenberg model with v_max = 1 a run with braking probability q / 2 ^ 31 is never faster
-- than the run with p / 2 ^ 31 from the same legal road and with the same key, if p is at most q; for larger
-- v_max it may be
abbrev pub RandomizationSlowsRuns : Type 0
RandomizationSlowsRuns =
    (p q : ℕ) (light heavy : Programs) (seed : Seed) (step : ℕ)
    → p ≤ q → IsNasch p light → IsNasch q heavy → IsLegal seed.road → seed.road.limit ≡ 1
    → IsNoFaster seed (always heavy) (always light) step

-- with v_max = 1 a run of the VDR model of Barlovic et al. (1998), with braking probabilities q / 2 ^ 31 of
-- moving and q0 / 2 ^ 31 of stopped cars, is never faster than the run of the Nagel-Schreckenberg model with
-- p / 2 ^ 31 from the same legal road and with the same key, if p is at most q and at most q0
abbrev pub SlowStartsSlowRuns : Type 0
SlowStartsSlowRuns =
    (p q q0 : ℕ) (light heavy : Programs) (seed : Seed) (step : ℕ)
    → p ≤ q → p ≤ q0 → IsNasch p light → IsVdr q q0 heavy → IsLegal seed.road → seed.road.limit ≡ 1
    → IsNoFaster seed (always heavy) (always light) step

-- Attractiveness (Liggett 1985) of the Nagel-Schreckenberg model with v_max = 1: if each car on one road is
-- at least as far ahead as the same car on another road, this stays so under the same random words.

-- `further` is the same car as `car`, on another road with the same lanes: it is on the same lane, `lead`
-- cells ahead of the place that `car` has on `road`
pub record IsFurther (lead : ℕ) (road : Cells) (car further : Car) : Type 0 where
  pub same_number : further.number ≡ car.number
  pub same_lane : further.lane ≡ car.lane
  pub place : further.place ≡ ahead (length (lane_of road car.lane)) car.place lead

-- no car is further on road `rear` than on road `front`: on `front` car i is `lead i` cells further. The
-- roads have the same limit and lanes, and the same order of cars: each car has the same next car ahead,
-- and its gap is larger on `front` by as much as the lead of the next car exceeds its own
pub record IsOrdered (lead : ℕ → ℕ) (rear front : Cells) : Type 0 where
  pub same_limit : front.limit ≡ rear.limit
  pub same_lanes : length front.lanes ≡ length rear.lanes
  pub same_cells : (l : ℕ) → l < length rear.lanes → length (lane_of front l) ≡ length (lane_of rear l)
  pub each_car : (car : Car) → IsAt rear car
      → (same : Car) × IsAt front same × IsFurther (lead car.number) rear car same
  pub same_next : (number next : ℕ) → IsNextOf rear number next → IsNextOf front number next
  pub gaps : (number next : ℕ) (here : IsNextOf rear number next) (there : IsNextOf front number next)
      → gap (lane_of front there.car.lane) there.car.place + lead number
      ≡ gap (lane_of rear here.car.lane) here.car.place + lead next

-- a car that has moved by its speed on the roads `rear` and `front` had the lead `lead` before, and now
-- `later`
pub record LeadsFollowSpeeds (lead later : ℕ → ℕ) (rear front : Cells) : Type 0 where
  pub by_speeds : (car same : Car) → IsAt rear car → IsAt front same → same.number ≡ car.number
      → later car.number + car.speed ≡ lead car.number + same.speed

-- in the Nagel-Schreckenberg model with v_max = 1 a step keeps the order of two legal roads: with the same
-- dice, the next road of `rear` under the braking probability q / 2 ^ 31 is not ahead of the next road of
-- `front` under p / 2 ^ 31, if p is at most q
abbrev pub StepKeepsOrder : Type 0
StepKeepsOrder =
    (p q : ℕ) (light heavy : Programs) (dice : Dice) (rear front next_rear next_front : Cells)
    (rear_tally front_tally : StepTally) (lead : ℕ → ℕ)
    → p ≤ q → IsNasch p light → IsNasch q heavy → IsLegal rear → IsLegal front → rear.limit ≡ 1
    → IsOrdered lead rear front
    → IsNext heavy dice rear next_rear rear_tally → IsNext light dice front next_front front_tally
    → (later : ℕ → ℕ) × IsOrdered later next_rear next_front
    × LeadsFollowSpeeds lead later next_rear next_front

-- after `step` steps the leads are `later`: the lead of a car has grown by the distance that it has gone in
-- the run from `front` under the rule `light`, and shrunk by its distance in the run of the seed under
-- `heavy`
pub record LeadsFollowDistances (seed : Seed) (front : Cells) (light heavy : Programs) (step : ℕ)
    (lead later : ℕ → ℕ) : Type 0 where
  pub by_distances : (number far most : ℕ) → HasGone seed (always heavy) step number far
      → HasGone (seed_from seed front) (always light) step number most
      → later number + far ≡ lead number + most

-- in the Nagel-Schreckenberg model with v_max = 1 two runs from legal roads in order stay in order, with
-- the same key and road number: no car of the run from the rear road, under the braking probability
-- q / 2 ^ 31, ever passes the same car of the run from `front`, under p / 2 ^ 31, if p is at most q
abbrev pub RunKeepsOrder : Type 0
RunKeepsOrder =
    (p q : ℕ) (light heavy : Programs) (seed : Seed) (front road other : Cells) (lead : ℕ → ℕ) (step : ℕ)
    → p ≤ q → IsNasch p light → IsNasch q heavy → IsLegal seed.road → IsLegal front → seed.road.limit ≡ 1
    → IsOrdered lead seed.road front → IsRoadAt seed (always heavy) step road
    → IsRoadAt (seed_from seed front) (always light) step other
    → (later : ℕ → ℕ) × IsOrdered later road other
    × LeadsFollowDistances seed front light heavy step lead later
