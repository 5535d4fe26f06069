-- The output for a job text as a series: the table of its run's windows, and how they are counted.
use Rattle.std.specs.Prelude.{◌≡◌, ◌↔◌, ℕ, ◌+◌, ◌*◌, ◌<◌, ◌≤◌, ◌&&◌, Bool, false, cond, Some, List, map}
use Rattle.std.specs.{Prelude.{length, sum_by, count_by, nat_eq}, List.range_with_len}
use Rattle.trlab_diagram.specs.declared.point.{Point.Point, LaneCount.LaneCount, Window.Window}
use Rattle.trlab_diagram.specs.Tables.{series_text}
use Rattle.trlab_road.specs.{declared.car.Car.Car, Cells.{Cells, cars, lane_of, standing}, Stored.LaneCar}
use Rattle.trlab_rules.specs.Rules.{Programs}
use Rattle.trlab_step.specs.{declared.tally.StepTally.StepTally, Next.IsNext}
use Rattle.trlab_step.specs.Run.{Seed, Sheet, IsRoadAt, dice_at, in_force, Progress}
use Rattle.trlab_jobs.specs.Job.{Job, seed_of, sheet_of}
use Rattle.trlab_campaign.specs.Output.{IsOutputForJobText, Outputs}
use Rattle.trlab_bounds.specs.declared.roads.TheConstants.{MAX_LENGTH, MAX_LIMIT}

-- The output for a job text as a series: the table of the windows of its run.

-- step `step` of a run, under the rule in force, takes the road `before` to `after` and has this tally
pub record IsStepAt (seed : Seed) (sheet : Sheet) (step : ℕ) (before after : Cells)
    (tally : StepTally) : Type 0 where
  pub rule : Programs
  pub under : in_force sheet step ≡ Some rule
  pub next : IsNext rule (dice_at seed step) before after tally

-- `roads` gives the road of a run at each step
abbrev pub AreRoads : Seed → Sheet → (ℕ → Cells) → Type 0
AreRoads seed sheet roads = (step : ℕ) → IsRoadAt seed sheet step (roads step)

-- the course of a run: its road at each step, and the tally of each step from one road to the next
pub record IsCourse (seed : Seed) (sheet : Sheet) (roads : ℕ → Cells)
    (tallies : ℕ → StepTally) : Type 0 where
  pub road_at : AreRoads seed sheet roads
  pub step_at : (step : ℕ)
      → IsStepAt seed sheet step (roads step) (roads (step + 1)) (tallies step)

-- whether a car is on this lane
abbrev pub is_on : ℕ → Car → Bool
is_on lane car = nat_eq car.lane lane

-- the number of cars on a lane of a road
abbrev pub cars_on : ℕ → Cells → ℕ
cars_on lane road = count_by (is_on lane) (standing road)

-- the sum of the speeds of the cars on a lane of a road
abbrev pub total_speed_on : ℕ → Cells → ℕ
total_speed_on lane road = sum_by (λ (car : Car). cond (is_on lane car) car.speed 0) (standing road)

-- the number of stopped cars on a lane of a road
abbrev pub stopped_on : ℕ → Cells → ℕ
stopped_on lane road = count_by (λ (car : Car). is_on lane car && nat_eq car.speed 0) (standing road)

-- the counts of a lane, each summed over these roads: its cars, their speeds and its stopped cars. A car
-- counts once for each road, so these are car-steps
abbrev pub lane_count : ℕ → List Cells → LaneCount
lane_count lane roads = record {
  cars = sum_by (cars_on lane) roads;
  distance = sum_by (total_speed_on lane) roads;
  stopped = sum_by (stopped_on lane) roads;
}

-- the tallies of `count` steps of a course, from the step `first` on
abbrev pub tallies_from : (ℕ → StepTally) → ℕ → ℕ → List StepTally
tallies_from tallies first count = map tallies (range_with_len first count)

-- the roads after each of `count` steps of a course, from the step `first` on: for 3 steps from step 5 on,
-- the roads at the steps 6, 7 and 8
abbrev pub roads_after : (ℕ → Cells) → ℕ → ℕ → List Cells
roads_after roads first count = map roads (range_with_len (first + 1) count)

-- the counts of a road in `steps` steps with these tallies: its cars and cells, and the sums of the tallies
abbrev pub point_of_tallies : Cells → ℕ → List StepTally → Point
point_of_tallies road steps tallies = record {
  cars = cars road;
  cells = length road.lanes * length (lane_of road 0);
  steps = steps;
  distance = sum_by (λ (tally : StepTally). tally.distance) tallies;
  stopped = sum_by (λ (tally : StepTally). tally.stopped) tallies;
  changes = sum_by (λ (tally : StepTally). tally.changes) tallies;
}

-- the window of `count` steps of a course, from the step `first` on: the counts of the road in these steps,
-- and the counts of each lane, summed over the roads after each of them
abbrev pub window_of : (ℕ → Cells) → (ℕ → StepTally) → ℕ → ℕ → Window
window_of roads tallies first count = record {
  step = first + count;
  point = point_of_tallies (roads (first + count)) count (tallies_from tallies first count);
  lane0 = lane_count 0 (roads_after roads first count);
  lane1 = lane_count 1 (roads_after roads first count);
}

-- window k of a series, counted from 0; its windows have `every` steps each, and window 0 begins at the step
-- `from`
abbrev pub nth_window : (ℕ → Cells) → (ℕ → StepTally) → ℕ → ℕ → ℕ → Window
nth_window roads tallies every from k = window_of roads tallies (from + k * every) every

-- the first `count` windows of a series; its windows have `every` steps each, and the first begins at the
-- step `from`
abbrev pub first_windows : (ℕ → Cells) → (ℕ → StepTally) → ℕ → ℕ → ℕ → List Window
first_windows roads tallies every from count =
    map (nth_window roads tallies every from) (range_with_len 0 count)

-- a run of `steps` steps completes exactly `count` windows of `every` steps each, from the step `from` on:
-- window k ends at or before its last step exactly if k is below `count`. For example, 25 steps complete 2
-- windows of 10 steps from step 0 on
abbrev pub CompletesWindows : ℕ → ℕ → ℕ → ℕ → Type 0
CompletesWindows every from steps count = (k : ℕ) → (k < count) ↔ (from + (k + 1) * every ≤ steps)

-- the series of a job: all windows of `every` steps each, from the step `from` on, that its run completes
pub record IsSeries (job : Job) (every from : ℕ) (windows : List Window) : Type 0 where
  pub roads : ℕ → Cells
  pub tallies : ℕ → StepTally
  pub course : IsCourse (seed_of job) (sheet_of job) roads tallies
  pub count : ℕ
  pub whole : CompletesWindows every from job.steps count
  pub told : windows ≡ first_windows roads tallies every from count

-- a complete output for a job: the table of its series, with windows of `every` steps from the step `from`
-- on, which is not a rejection
abbrev pub IsSeriesOutputForJob : ℕ → ℕ → Job → Outputs
IsSeriesOutputForJob every from job rejected out =
    (rejected ≡ false)
    × ((windows : List Window) × (IsSeries job every from windows × (out ≡ series_text windows)))

-- a complete output of `series` for a job text, marked as a rejection or not: the table of the job's windows
-- of `every` steps from the step `from` on, or, as a rejection, the line of the text's first fault
abbrev pub IsSeriesOutput : ℕ → ℕ → List ℕ → Outputs
IsSeriesOutput every from text rejected out =
    IsOutputForJobText (IsSeriesOutputForJob every from) text rejected out

-- How the windows of a series are counted.

-- `new` is the run `old` after `count` more steps
pub record IsLaterBy (count : ℕ) (old new : Progress) : Type 0 where
  pub same_seed : new.seed ≡ old.seed
  pub same_sheet : new.sheet ≡ old.sheet
  pub later : new.step ≡ old.step + count

-- upper bounds on the counts of a lane, summed over `steps` steps: per step at most
-- MAX_LENGTH cars and MAX_LENGTH stopped cars, and per car at most the distance MAX_LIMIT
pub record IsBoundedCount (steps : ℕ) (count : LaneCount) : Type 0 where
  pub cars : count.cars ≤ MAX_LENGTH * steps
  pub distance : count.distance ≤ MAX_LIMIT * MAX_LENGTH * steps
  pub stopped : count.stopped ≤ MAX_LENGTH * steps

-- the counts of the cars of a lane: their number, the sum of their speeds, and the number of stopped cars
abbrev pub counts_of_cars : List LaneCar → LaneCount
counts_of_cars cars = record {
  cars = length cars;
  distance = sum_by (λ (car : LaneCar). car.speed) cars;
  stopped = count_by (λ (car : LaneCar). nat_eq car.speed 0) cars;
}
