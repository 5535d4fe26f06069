-- The guarantees of the code about jobs and sweeps.
use Rattle.std.specs.Prelude.{ℕ, ◌+◌, ◌*◌, ◌<◌, ◌≤◌, [], ◌∷◌, All, length}
use Rattle.trlab_bounds.specs.declared.runs.TheConstants.{MAX_STEPS, MAX_LATER}
use Rattle.trlab_road.specs.{Cells.IsLegal, Spreading.CanSpread}
use Rattle.trlab_step.specs.Run.{IsRuleFor, Sheet}
use Rattle.trlab_jobs.specs.declared.{limits.TheConstants.{MAX_POINTS, MAX_WORK}, sweep.Shape.Shape}
use Rattle.trlab_jobs.specs.{Job.Job, Sweep.{all_steps, Sweep}}

-- later rules for roads with `lanes` lanes: their steps increase, are at least `least`, and are below `steps`
abbrev pub AreLaterRules : ℕ → ℕ → ℕ → Sheet → Type 0
AreLaterRules lanes steps least [] = Unit {0}
AreLaterRules lanes steps least (entry ∷ later) =
    (least ≤ entry.0) × ((entry.0 < steps)
    × (IsRuleFor lanes entry.1 × AreLaterRules lanes steps (entry.0 + 1) later))

-- a job as the code keeps it: its road is legal, its rules are for the number of its lanes, the steps of its
-- later rules increase and are below its number of steps, and there are at most MAX_STEPS steps and at most
-- MAX_LATER later rules
pub record IsStoredJob (job : Job) : Type 0 where
  pub legal : IsLegal job.road
  pub first : IsRuleFor (length job.road.lanes) job.first
  pub later : AreLaterRules (length job.road.lanes) job.steps 0 job.later
  pub steps : job.steps ≤ MAX_STEPS
  pub few : length job.later ≤ MAX_LATER

-- `count` cars can be spread evenly over a road of this shape: it has a cell for each, and a valid size and
-- limit
abbrev pub CanSpreadOn : Shape → ℕ → Type 0
CanSpreadOn shape count = CanSpread shape.lanes shape.length shape.limit count

-- a sweep as the code keeps it: a rule for its number of lanes, cars that can be spread evenly at each
-- point, 1 to MAX_POINTS points, at least one counted step per point, and at most MAX_WORK steps per point
-- and of all points together
pub record IsStoredSweep (sweep : Sweep) : Type 0 where
  pub rule : IsRuleFor sweep.setup.shape.lanes sweep.setup.rule
  pub spreads : All (CanSpreadOn sweep.setup.shape) sweep.cars
  pub some : 1 ≤ length sweep.cars
  pub few : length sweep.cars ≤ MAX_POINTS
  pub counted : 1 ≤ sweep.setup.span.measure
  pub short : all_steps sweep.setup.span ≤ MAX_WORK
  pub work : length sweep.cars * all_steps sweep.setup.span ≤ MAX_WORK
