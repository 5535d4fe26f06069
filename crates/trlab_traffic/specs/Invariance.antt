-- Invariance: a road may be rotated, its lanes exchanged, its far cells or the random numbers replaced, and
-- its steps and runs stay as they are, or change in the same way. Laws: `ring_is_homogeneous`,
-- `lanes_are_symmetric`, `lanes_are_apart`, `influence_stays_in_light_cone`,
-- `deterministic_rules_ignore_key`, `deterministic_runs_become_periodic`, `rules_reduce_to_nasch`.
use Rattle.std.specs.Prelude.{◌≡◌, ◌↔◌, ◌⊎◌, ℕ, ◌+◌, ◌*◌, ◌^◌, ◌<◌, ◌≤◌, Bool, true, false, IfSome, List, []}
use Rattle.std.specs.Prelude.{◌∷◌, All, length}
use Rattle.trlab_bounds.specs.declared.programs.TheConstants.{CERTAIN}
use Rattle.trlab_code.specs.declared.instruction.{Input.TheVariants.Lane, Instr.Instr}
use Rattle.trlab_code.specs.declared.instruction.Instr.TheVariants.{Draw, Get}
use Rattle.trlab_road.specs.{Cells.{Cells, at, lane_of, cars, IsLegal}, Gaps.ahead}
use Rattle.trlab_rules.specs.Rules.{Programs, IsNasch, IsVdr, IsRickert}
use Rattle.trlab_machine.specs.declared.dice.Dice.{Dice}
use Rattle.trlab_step.specs.declared.tally.StepTally.{StepTally}
use Rattle.trlab_step.specs.{Run.{IsRuleFor, Seed, Sheet, ComesTo, IsRoadAt}, Next.IsNext}
use Rattle.trlab_traffic.specs.Terms.{EachRule, StaysInLane, all_cells, always, rotate_road, seed_from}

-- Homogeneity: all places of a ring are alike. The future of a road does not depend on where cell 0 is.

-- under any rule and with any dice, rotating a legal road by r cells rotates its next road by r cells, and
-- the tally stays the same
abbrev pub StepIsHomogeneous : Type 0
StepIsHomogeneous =
    (rule : Programs) (dice : Dice) (road next : Cells) (tally : StepTally) (r : ℕ)
    → IsLegal road → IsNext rule dice road next tally
    → IsNext rule dice (rotate_road r road) (rotate_road r next) tally

-- under any sheet of rules, rotating the legal initial road by r cells rotates the road at each step by
-- r cells, and the sums of tallies stay the same
abbrev pub RunIsHomogeneous : Type 0
RunIsHomogeneous =
    (seed : Seed) (sheet : Sheet) (step : ℕ) (road : Cells) (sum : StepTally) (r : ℕ)
    → IsLegal seed.road → ComesTo seed sheet step road sum
    → ComesTo (record seed { road = rotate_road r seed.road }) sheet step (rotate_road r road) sum

-- Symmetry of lanes: the two lanes are alike under rules that do not read the car's lane.

-- the road of two lanes with its lanes exchanged; the cars keep their places, numbers and speeds
abbrev pub exchange_lanes : Cells → Cells
exchange_lanes road = record { limit = road.limit; lanes = lane_of road 1 ∷ lane_of road 0 ∷ [] }

-- does an instruction read the car's lane?
abbrev pub reads_lane : Instr → Bool
reads_lane (Get d Lane) = true
reads_lane _ = false

-- a rule ignores the lane: its change program, if it has one, does not read the car's lane; a motion program
-- never reads it
abbrev pub IgnoresLane : Programs → Type 0
IgnoresLane rule =
    IfSome rule.change (λ change. All (λ instr. reads_lane instr ≡ false) change.program.instrs)

-- the change program of Rickert et al. (1996) does not read the car's lane, for any probabilities p / 2 ^ 31
-- of braking and c / 2 ^ 31 of a lane change
abbrev pub RickertIgnoresLane : Type 0
RickertIgnoresLane = (p c : ℕ) (rule : Programs) → IsRickert p c rule → IgnoresLane rule

-- under a rule that does not read the car's lane, exchanging the lanes of a road exchanges the lanes of its
-- next road, and the tally stays the same
abbrev pub StepIsSymmetric : Type 0
StepIsSymmetric =
    (rule : Programs) (dice : Dice) (road next : Cells) (tally : StepTally)
    → IgnoresLane rule → length road.lanes ≡ 2 → IsNext rule dice road next tally
    → IsNext rule dice (exchange_lanes road) (exchange_lanes next) tally

-- under a sheet of rules that do not read the car's lane, exchanging the lanes of the initial road exchanges
-- the lanes of the road at each step, and the sums of tallies stay the same
abbrev pub RunIsSymmetric : Type 0
RunIsSymmetric =
    (seed : Seed) (sheet : Sheet) (step : ℕ) (road : Cells) (sum : StepTally)
    → EachRule IgnoresLane sheet → length seed.road.lanes ≡ 2 → ComesTo seed sheet step road sum
    → ComesTo (record seed { road = exchange_lanes seed.road }) sheet step (exchange_lanes road) sum

-- Independent lanes: if no car changes lanes, the other lane has no influence.

-- the two roads have the same limit and the same lane `l`, with the same cars in the same cells; their other
-- lanes may differ
pub record ShareLane (l : ℕ) (road other : Cells) : Type 0 where
  pub same_limit : other.limit ≡ road.limit
  pub same_lane : lane_of other l ≡ lane_of road l

-- without lane changes the next state of lane `l` does not depend on the other lane: if `road` and `other`
-- share lane `l`, so do their next roads, `next` and `next_other`, under the same rule and with the same dice
abbrev pub StepKeepsLanesApart : Type 0
StepKeepsLanesApart =
    (rule : Programs) (dice : Dice) (road other next next_other : Cells) (tally count : StepTally) (l : ℕ)
    → StaysInLane rule → IsNext rule dice road next tally → IsNext rule dice other next_other count
    → ShareLane l road other → ShareLane l next next_other

-- without lane changes the run of lane `l` does not depend on the other lane: if two starts share lane `l`,
-- so do their roads after each number of steps, under the same sheet of rules and with the same key and road
-- number
abbrev pub RunKeepsLanesApart : Type 0
RunKeepsLanesApart =
    (seed : Seed) (start : Cells) (sheet : Sheet) (step : ℕ) (road other : Cells) (sum count : StepTally)
    (l : ℕ) → EachRule StaysInLane sheet → ComesTo seed sheet step road sum
    → ComesTo (record seed { road = start }) sheet step other count
    → ShareLane l seed.road start → ShareLane l road other

-- The light cone without lane changes: within t steps a car influences only cells up to v_max * t cells
-- ahead of it and 2 t cells behind it.

-- the two roads have the same limit, and lanes l of the same length; on these, the w cells from place x on
-- are the same, while all others may differ
pub record ShareCells (l x w : ℕ) (road other : Cells) : Type 0 where
  pub same_limit : other.limit ≡ road.limit
  pub same_length : length (lane_of other l) ≡ length (lane_of road l)
  pub same_cells : (j : ℕ) → j < w
      → let cell = ahead (length (lane_of road l)) x j in at (lane_of other l) cell ≡ at (lane_of road l) cell

-- under one rule, with the same key and road number, two roads of runs share cells after `step` steps if
-- the initial roads share these cells, the v_max cells behind them for each step, and the two cells ahead
-- of them for each step. So a cell depends only on v_max * step cells behind it and 2 * step cells ahead of
-- it
abbrev pub StaysInLightCone : Programs → Type 0
StaysInLightCone rule =
    (seed : Seed) (start road other : Cells) (step l x w : ℕ) → IsLegal seed.road → IsLegal start
    → ShareCells l x (w + step * (seed.road.limit + 2)) seed.road start
    → IsRoadAt seed (always rule) step road → IsRoadAt (seed_from seed start) (always rule) step other
    → ShareCells l (ahead (length (lane_of seed.road l)) x (seed.road.limit * step)) w road other

-- influence stays in the light cone in the Nagel-Schreckenberg model, for every braking probability
-- p / 2 ^ 31
abbrev pub NaschHasLightCone : Type 0
NaschHasLightCone = (p : ℕ) (rule : Programs) → IsNasch p rule → StaysInLightCone rule

-- influence stays in the light cone in the VDR model of Barlovic et al. (1998), for all braking
-- probabilities p / 2 ^ 31 of moving cars and p0 / 2 ^ 31 of stopped cars
abbrev pub VdrHasLightCone : Type 0
VdrHasLightCone = (p p0 : ℕ) (rule : Programs) → IsVdr p p0 rule → StaysInLightCone rule

-- Deterministic rules: the key of a run does not matter.

-- an instruction has the same outcome for all random words: a draw has probability 0 or 1 (chance 0 or
-- CERTAIN, which is 2 ^ 31), and no other instruction reads random words
abbrev pub HasOneOutcome : Instr → Type 0
HasOneOutcome (Draw d k chance) = (chance ≡ 0) ⊎ (chance ≡ CERTAIN)
HasOneOutcome _ = Unit {0}

-- a rule is deterministic: each draw of its programs has probability 0 or 1
pub record IsDeterministic (rule : Programs) : Type 0 where
  pub motion : All HasOneOutcome rule.motion.program.instrs
  pub change : IfSome rule.change (λ change. All HasOneOutcome change.program.instrs)

-- the Nagel-Schreckenberg model without randomization is deterministic
abbrev pub NaschWithoutRandomizationIsDeterministic : Type 0
NaschWithoutRandomizationIsDeterministic = (rule : Programs) → IsNasch 0 rule → IsDeterministic rule

-- under a deterministic rule the next road and the tally do not depend on the dice, so not on the key, the
-- road number or the step
abbrev pub StepIsDeterministic : Type 0
StepIsDeterministic =
    (rule : Programs) (dice other : Dice) (road next : Cells) (tally : StepTally)
    → IsDeterministic rule → IsNext rule dice road next tally → IsNext rule other road next tally

-- under a sheet of deterministic rules a run is the same for all keys and all road numbers
abbrev pub RunIsDeterministic : Type 0
RunIsDeterministic =
    (seed : Seed) (key : List ℕ) (number : ℕ) (sheet : Sheet) (step : ℕ) (road : Cells) (sum : StepTally)
    → EachRule IsDeterministic sheet → ComesTo seed sheet step road sum
    → ComesTo (record seed { key = key; number = number }) sheet step road sum

-- Deterministic rules lead every run into a cycle: from some step on its roads repeat.

-- a run is periodic: from step `first` on the road of each step comes again `period` steps later, and
-- `period` is at least 1
pub record IsPeriodic (seed : Seed) (sheet : Sheet) (first period : ℕ) : Type 0 where
  pub some_step : 1 ≤ period
  pub comes_again : (step : ℕ) (road later : Cells) → first ≤ step
      → IsRoadAt seed sheet step road → IsRoadAt seed sheet (step + period) later → later ≡ road

-- an upper bound on the number of roads that the cars of a road can form: each car has one of all cells, and
-- a speed from 0 to the limit
abbrev pub state_count : Cells → ℕ
state_count road = (all_cells road * (road.limit + 1)) ^ cars road

-- under a deterministic rule for its number of lanes a run from a legal road becomes periodic; `first` plus
-- `period` is at most the number of states
abbrev pub DeterministicRunsBecomePeriodic : Type 0
DeterministicRunsBecomePeriodic =
    (rule : Programs) (seed : Seed)
    → IsDeterministic rule → IsRuleFor (length seed.road.lanes) rule → IsLegal seed.road
    → (first : ℕ) × (period : ℕ) × IsPeriodic seed (always rule) first period
    × (first + period ≤ state_count seed.road)

-- Rules that have the same steps as other rules.

-- two rules have the same steps on legal roads with `lanes` lanes: with the same dice both lead from a road
-- to the same next road, with the same tally
abbrev pub HaveSameSteps : ℕ → Programs → Programs → Type 0
HaveSameSteps lanes rule other =
    (dice : Dice) (road next : Cells) (tally : StepTally) → IsLegal road → length road.lanes ≡ lanes
    → IsNext rule dice road next tally ↔ IsNext other dice road next tally

-- the VDR model of Barlovic et al. (1998), if stopped and moving cars brake with the same probability
-- p / 2 ^ 31, has the same steps as the Nagel-Schreckenberg model with this probability, for any number of
-- lanes
abbrev pub VdrReducesToNasch : Type 0
VdrReducesToNasch =
    (p lanes : ℕ) (rule other : Programs) → IsVdr p p rule → IsNasch p other → HaveSameSteps lanes rule other

-- on two lanes the model of Rickert et al. (1996) with probability 0 of a lane change has the same steps as
-- the Nagel-Schreckenberg model with the same braking probability p / 2 ^ 31
abbrev pub RickertReducesToNasch : Type 0
RickertReducesToNasch =
    (p : ℕ) (rule other : Programs) → IsRickert p 0 rule → IsNasch p other → HaveSameSteps 2 rule other

-- if two rules have the same steps on legal roads with as many lanes as the start, which is legal, each run
-- under one of them is a run under the other, with the same sum of tallies
abbrev pub SameStepsGiveSameRuns : Type 0
SameStepsGiveSameRuns =
    (rule other : Programs) (seed : Seed) (step : ℕ) (road : Cells) (sum : StepTally)
    → IsLegal seed.road → HaveSameSteps (length seed.road.lanes) rule other
    → ComesTo seed (always rule) step road sum → ComesTo seed (always other) step road sum
