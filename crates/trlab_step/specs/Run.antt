-- Runs of many steps under a sheet of rules, and the progress of a run.
use Rattle.std.specs.Prelude.{◌≡◌, ◌≤◌, ◌==◌, ◌&&◌, ℕ, zero, suc, ◌+◌, Bool, not, List, [], ◌∷◌, Option}
use Rattle.std.specs.Prelude.{is_some, Some, None, nat_le, unwrap_or, if◌then◌else◌, ◌++◌, All, IfSome}
use Rattle.std.specs.Prelude.{IsSome, length, sum}
use Rattle.trlab_road.specs.Cells.{Cells, cars, IsLegal}
use Rattle.trlab_rules.specs.Rules.{Programs}
use Rattle.trlab_machine.specs.declared.dice.Dice.{Dice}
use Rattle.trlab_step.specs.{Answers.dice_of, declared.tally.StepTally.StepTally, Next.IsNext}
use Rattle.trlab_code.specs.declared.program.Kind.TheVariants.{Motion, Change}
use Rattle.trlab_verify.specs.Verified.{IsChecked}

-- the seed of a run, which is its initial state: its road; the key and the number of the road, which determine
-- the random words; and `warm`, the first step whose tally is counted
pub record Seed : Type 0 where
  pub road : Cells
  pub key : List ℕ
  pub number : ℕ
  pub warm : ℕ

-- the rules of a run: entries in order, each with the step from which its rule is in force
abbrev pub Sheet : Type 0
Sheet = List (ℕ × Programs)

-- the steps of the entries strictly increase, and the first is at least `least`; true without entries. For
-- example, the steps 3, 5 and 9 increase from 3
abbrev pub StepsIncreaseFrom : ℕ → Sheet → Type 0
StepsIncreaseFrom least [] = Unit {0}
StepsIncreaseFrom least (entry ∷ later) = (least ≤ entry.0) × StepsIncreaseFrom (entry.0 + 1) later

-- a valid sheet: it has a first entry, for step 0, and the steps of its entries strictly increase
abbrev pub IsSheet : Sheet → Type 0
IsSheet [] = ⊥
IsSheet (first ∷ later) = (first.0 ≡ 0) × StepsIncreaseFrom 1 later

-- the sheet with the rule `first` from step 0 on, and then the given entries; if the first of these is for
-- step 0, it replaces `first`
abbrev pub sheet_with : Programs → Sheet → Sheet
sheet_with first [] = (0, first) ∷ []
sheet_with first (entry ∷ later) = if entry.0 == 0 then entry ∷ later else (0, first) ∷ entry ∷ later

-- the rule in force at a step of a valid sheet: that of the last entry for this step or an earlier one; for
-- example, with entries for the steps 0 and 100, it is the first rule until step 99, then the second
abbrev pub in_force : Sheet → ℕ → Option Programs
in_force [] step = None
in_force (entry ∷ sheet) step =
    if nat_le entry.0 step then Some (unwrap_or (in_force sheet step) entry.1) else None

-- the tally before any step: each count is 0
abbrev pub no_tally : StepTally
no_tally = record { distance = 0; stopped = 0; changes = 0 }

-- the sum of two tallies: of their distances, of their stopped cars and of their lane changes. A car counts
-- once for each step after which it is stopped, so a sum of tallies counts car-steps
abbrev pub tally_sum : StepTally → StepTally → StepTally
tally_sum a b = record {
  distance = a.distance + b.distance;
  stopped = a.stopped + b.stopped;
  changes = a.changes + b.changes;
}

-- the dice of step `step` of a run, which determine the random words in this step
abbrev pub dice_at : Seed → ℕ → Dice
dice_at seed step = dice_of seed.key seed.number step

-- step `step` of a run leads from the road `before` to `after` under the rule in force, with this tally; from
-- step `warm` on, `sum` is `sum_before` plus the tally, and in earlier steps it is `sum_before`
pub record IsRunStep (seed : Seed) (sheet : Sheet) (step : ℕ) (before after : Cells)
    (sum_before sum : StepTally) (rule : Programs) (tally : StepTally) : Type 0 where
  pub under : in_force sheet step ≡ Some rule
  pub next : IsNext rule (dice_at seed step) before after tally
  pub counted : sum ≡ (if nat_le seed.warm step then tally_sum sum_before tally else sum_before)

-- after `step` steps of a run its road is `road`, and `sum` is the sum of the tallies of its steps from
-- `warm` on; after 0 steps these are the initial road and `no_tally`
abbrev pub ComesTo : Seed → Sheet → ℕ → Cells → StepTally → Type 0
ComesTo seed sheet zero road sum = IsSheet sheet × (road ≡ seed.road) × (sum ≡ no_tally)
ComesTo seed sheet (suc step) road sum =
    (before : Cells) × (sum_before : StepTally) × (rule : Programs) × (tally : StepTally)
    × ComesTo seed sheet step before sum_before
    × IsRunStep seed sheet step before road sum_before sum rule tally

-- `road` is the road of the run after `step` steps
abbrev pub IsRoadAt : Seed → Sheet → ℕ → Cells → Type 0
IsRoadAt seed sheet step road = (sum : StepTally) × ComesTo seed sheet step road sum

-- `sum` is the sum of the tallies of the run's first `step` steps, without the steps before `warm`
abbrev pub IsTallyAt : Seed → Sheet → ℕ → StepTally → Type 0
IsTallyAt seed sheet step sum = (road : Cells) × ComesTo seed sheet step road sum

-- does a rule suit a road? Not if it has a change program and the road has one lane
abbrev pub suits : Programs → Cells → Bool
suits rule road = not (is_some rule.change && length road.lanes == 1)

-- a rule for roads with `lanes` lanes: its motion program and, if there is one, its change program are
-- accepted programs, which end within their budgets; if it has a change program, `lanes` is 2
pub record IsRuleFor (lanes : ℕ) (rule : Programs) : Type 0 where
  pub motion : IsChecked Motion rule.motion
  pub change : IfSome rule.change (λ change. IsChecked Change change)
  pub two_lanes : IsSome rule.change → lanes ≡ 2

-- a sheet for roads with `lanes` lanes: its entries begin with one for step 0, their steps strictly increase,
-- and their rules have accepted programs, with change programs only if `lanes` is 2
pub record IsSheetFor (lanes : ℕ) (sheet : Sheet) : Type 0 where
  pub is_sheet : IsSheet sheet
  pub rules : All (λ (entry : ℕ × Programs). IsRuleFor lanes entry.1) sheet

-- the progress of a run: its seed, its sheet, the number of steps so far, and the road and the sum of
-- tallies after these steps
pub record Progress : Type 0 where
  pub seed : Seed
  pub sheet : Sheet
  pub step : ℕ
  pub road : Cells
  pub sum : StepTally

-- a run at step 0: it has the initial road, and no tally has been counted
abbrev pub at_start : Seed → Sheet → Progress
at_start seed sheet = record { seed = seed; sheet = sheet; step = 0; road = seed.road; sum = no_tally }

-- a run reaches this progress: it starts from a legal road, under a sheet of rules for its number of lanes,
-- and after `step` steps its road is `road` and the sum of its tallies is `sum`
pub record IsReachedByRun (run : Progress) : Type 0 where
  pub legal : IsLegal run.seed.road
  pub suits : IsSheetFor (length run.seed.road.lanes) run.sheet
  pub comes : ComesTo run.seed run.sheet run.step run.road run.sum

-- `new` has the seed and the sheet of the run `old`, and its number of steps is one larger
pub record IsOneStepOn (old new : Progress) : Type 0 where
  pub same_seed : new.seed ≡ old.seed
  pub same_sheet : new.sheet ≡ old.sheet
  pub next_step : new.step ≡ old.step + 1
