-- Laws of outputs, of the steps that they show, and of series.
use Rattle.std.specs.Prelude.{◌≡◌, ℕ, Bool, List, ◌+◌, ◌*◌, ◌≤◌, All, Ok, ◌↔◌, true}
use Rattle.trlab_campaign.specs.Output.{Outputs, IsOutput, IsShownOutput, every_from}
use Rattle.trlab_campaign.specs.SeriesOutput.{IsSeries, IsSeriesOutput}
use Rattle.trlab_diagram.specs.declared.point.Window.{Window}
use Rattle.trlab_jobs.specs.Job.{Job, ParsesAsJob}

-- Laws of outputs, for any kind of text.

-- every text has an output, which is a rejection or not
abbrev pub HasSomeOutput : (List ℕ → Outputs) → Type 0
HasSomeOutput IsOutput = (text : List ℕ) → (rejected : Bool) × (out : List ℕ) × IsOutput text rejected out

-- every text has at most one output: two outputs for the same text are equal, and both are rejections or
-- neither is
abbrev pub HasAtMostOneOutput : (List ℕ → Outputs) → Type 0
HasAtMostOneOutput IsOutput = (text : List ℕ) (rejected also_rejected : Bool) (out other : List ℕ)
    → IsOutput text rejected out → IsOutput text also_rejected other
    → (rejected ≡ also_rejected) × (out ≡ other)

-- Laws of series, independent of the code that counts them.

-- the counts of the two lanes of a window add up to those of the road: the car-steps, the distance, and the
-- car-steps with speed 0; a road with one lane has none on lane 1
pub record LanesAddUp (window : Window) : Type 0 where
  pub cars : window.lane0.cars + window.lane1.cars ≡ window.point.steps * window.point.cars
  pub distance : window.lane0.distance + window.lane1.distance ≡ window.point.distance
  pub stopped : window.lane0.stopped + window.lane1.stopped ≡ window.point.stopped

-- in every window of every job's series, the counts of the lanes add up to those of the road
abbrev pub LanesOfSeriesAddUp : Type 0
LanesOfSeriesAddUp =
    (text : List ℕ) (job : Job) (every from : ℕ) (windows : List Window)
    → ParsesAsJob text (Ok job) → IsSeries job every from windows → All LanesAddUp windows

-- with windows of at least one step, every text has an output of `series`, which is a rejection or not
abbrev pub SeriesHasSomeOutput : Type 0
SeriesHasSomeOutput = (every from : ℕ) → 1 ≤ every → HasSomeOutput (IsSeriesOutput every from)

-- every text has at most one output of `series`, for windows of any length, from any step on
abbrev pub SeriesHasAtMostOneOutput : Type 0
SeriesHasAtMostOneOutput = (every from : ℕ) → HasAtMostOneOutput (IsSeriesOutput every from)

-- Laws of the steps that are shown, and of the outputs that show them.

-- a step is shown exactly if it is one of `from`, `from + every`, `from + 2 * every` and so on
abbrev pub EveryNthStepIsShown : Type 0
EveryNthStepIsShown =
    (every from step : ℕ)
    → (every_from every from step ≡ true) ↔ ((k : ℕ) × (step ≡ from + k * every))

-- with `--every 1 --from 0`, `run` has the same outputs as with every step shown
abbrev pub EveryStepFromStartIsEach : Type 0
EveryStepFromStartIsEach =
    (text : List ℕ) (rejected : Bool) (out : List ℕ)
    → IsShownOutput (every_from 1 0) text rejected out ↔ IsOutput text rejected out

-- whichever steps are shown, every text has an output of `run`
abbrev pub ShownHasSomeOutput : Type 0
ShownHasSomeOutput = (shown : ℕ → Bool) → HasSomeOutput (IsShownOutput shown)

-- whichever steps are shown, every text has at most one output of `run`
abbrev pub ShownHasAtMostOneOutput : Type 0
ShownHasAtMostOneOutput = (shown : ℕ → Bool) → HasAtMostOneOutput (IsShownOutput shown)
