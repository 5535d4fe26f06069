-- The output for a text that is not rejected: one worker drives its roads.
use Rattle.std.specs.Prelude.{◌≡◌, ◌+◌, ◌<◌, ℕ, Bool, false, List, Ok, length, slice_index_or}
use Rattle.trlab_diagram.specs.{declared.point.Point.Point, Tables.{series_text, points_text}}
use Rattle.trlab_road.specs.{Cells.Cells, Spreading.IsEvenlySpaced}
use Rattle.trlab_step.specs.{declared.tally.StepTally.StepTally, Laws.IsDriven, Run.IsTallyAt}
use Rattle.trlab_jobs.specs.Job.{Job, ParsesAsJob, seed_of, sheet_of}
use Rattle.trlab_jobs.specs.Sweep.{all_steps, Setup, Sweep, ParsesAsSweep}
use Rattle.trlab_campaign.specs.{Output.{IsShownOutput, steps_text}, SweepOutput.{IsSweepOutput, point_of}}
use Rattle.trlab_campaign.specs.SeriesOutput.{CompletesWindows, IsSeriesOutput, IsStepAt, first_windows}
use Rattle.trlab_campaign.specs.SweepOutput as sweep

-- `out` is the output for the job text `text`: one worker drives the job's road, and the pictures show the
-- roads of this run at the steps that are shown
pub record IsDrivenJob (shown : ℕ → Bool) (text out : List ℕ) : Type 0 where
  pub job : Job
  pub parsed_as : ParsesAsJob text (Ok job)
  pub roads : ℕ → Cells
  pub driven : IsDriven (seed_of job) (sheet_of job) job.steps roads
  pub pictures : out ≡ steps_text shown roads (job.steps + 1)

-- whichever steps are shown, every output of `run` for a job text that is not a rejection is the output of a
-- driven job
abbrev pub JobTextsAreDriven : Type 0
JobTextsAreDriven =
    (shown : ℕ → Bool) (text out : List ℕ)
    → IsShownOutput shown text false out → IsDrivenJob shown text out

-- `out` is the table of a series for the job text `text`, with windows of `every` steps from the step
-- `from` on: one worker drives the job's road, and the table has each window that the run completes, with
-- the counts of this run
pub record IsDrivenSeries (every from : ℕ) (text out : List ℕ) : Type 0 where
  pub job : Job
  pub parsed_as : ParsesAsJob text (Ok job)
  pub roads : ℕ → Cells
  pub tallies : ℕ → StepTally
  pub driven : IsDriven (seed_of job) (sheet_of job) job.steps roads
  pub tallied : (step : ℕ) → step < job.steps
      → IsStepAt (seed_of job) (sheet_of job) step (roads step) (roads (step + 1)) (tallies step)
  pub count : ℕ
  pub whole : CompletesWindows every from job.steps count
  pub table : out ≡ series_text (first_windows roads tallies every from count)

-- for windows of any length, from any step on, every output of `series` for a job text that is not a
-- rejection is the table of a driven series
abbrev pub SeriesTextsAreDriven : Type 0
SeriesTextsAreDriven =
    (every from : ℕ) (text out : List ℕ)
    → IsSeriesOutput every from text false out → IsDrivenSeries every from text out

-- a point of a sweep with this common part: one worker drives road `number`, whose `cars` cars are evenly
-- spaced at the start, and the point has the counts of this run
pub record IsDrivenPoint (setup : Setup) (number cars : ℕ) (point : Point) : Type 0 where
  pub start : Cells
  pub tally : StepTally
  pub roads : ℕ → Cells
  pub even : IsEvenlySpaced setup.shape.lanes setup.shape.length setup.shape.limit cars start
  pub driven : IsDriven (sweep.point_seed setup number start) (sweep.sweep_sheet setup)
      (all_steps setup.span) roads
  pub counted : IsTallyAt (sweep.point_seed setup number start) (sweep.sweep_sheet setup)
      (all_steps setup.span) tally
  pub told : point ≡ point_of setup cars tally

-- `out` is the output for the sweep text `text`: one worker drives the road of each point, and the table has
-- the points in the order of the text
pub record IsDrivenSweep (text out : List ℕ) : Type 0 where
  pub parsed_sweep : Sweep
  pub parsed_as : ParsesAsSweep text (Ok parsed_sweep)
  pub points : List Point
  pub one_each : length points ≡ length parsed_sweep.cars
  pub each : (i cars : ℕ) (point : Point) → i < length parsed_sweep.cars
      → IsDrivenPoint parsed_sweep.setup i (slice_index_or parsed_sweep.cars i cars)
      (slice_index_or points i point)
  pub table : out ≡ points_text points

-- every output of `sweep` for a sweep text that is not a rejection is the output of a driven sweep
abbrev pub SweepTextsAreDriven : Type 0
SweepTextsAreDriven = (text out : List ℕ) → IsSweepOutput text false out → IsDrivenSweep text out
