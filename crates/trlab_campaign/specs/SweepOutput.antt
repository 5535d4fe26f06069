-- The output for a sweep text: the table of its points, and the triangle that they do not exceed.
use Rattle.std.specs.Prelude.{◌≡◌, ℕ, ◌+◌, ◌<◌, ◌≤◌, false, List, [], ◌∷◌, All, length, slice_index_or}
use Rattle.std.specs.{Prelude.{Result, IfOk, Vec, ◌-◌, ◌*◌, ◌/◌, min, Ok}, Borrow.Bor}
use Rattle.trlab_diagram.specs.{declared.point.Point.Point, Tables.{IsMeasured, points_text, flow_of}}
use Rattle.trlab_road.specs.{Cells.Cells, Spreading.IsEvenlySpaced}
use Rattle.trlab_step.specs.{declared.tally.StepTally.StepTally, Run.{Seed, Sheet, IsTallyAt}}
use Rattle.trlab_sequential_book.specs.declared.seed.Seed.{Seed as BookSeed}
use Rattle.trlab_jobs.specs.Sweep.{cell_count, all_steps, Setup, Sweep, ParsesAsSweep}
use Rattle.trlab_jobs.specs.{declared.rule_line.RuleLine.{RuleLine, TheVariants.Nasch}, Lines.rule_line}
use Rattle.trlab_campaign.specs.Output.{Outputs, IsOutputForText}
use Rattle.trlab_lines.specs.Lines.{lines_of}
use Rattle.trlab_texts.specs.declared.fault.Cause.{Cause}

-- The output for a sweep text: the table of its points.

-- the seed of a point's run: this road, the key of the sweep, the number of the point, and the sweep's warm
-- steps, which are not counted
abbrev pub point_seed : Setup → ℕ → Cells → Seed
point_seed setup number road =
    record { road = road; key = setup.key; number = number; warm = setup.span.warm }

-- the sheet of a sweep: its one rule, in force from step 0 on
abbrev pub sweep_sheet : Setup → Sheet
sweep_sheet setup = (0, setup.rule) ∷ []

-- the point of the diagram for `cars` cars, with this sum of the tallies of the counted steps
abbrev pub point_of : Setup → ℕ → StepTally → Point
point_of setup cars tally = record {
  cars = cars;
  cells = cell_count setup.shape;
  steps = setup.span.measure;
  distance = tally.distance;
  stopped = tally.stopped;
  changes = tally.changes;
}

-- a road from which the point with this number starts: its cars are evenly spaced
abbrev pub IsStart : Sweep → ℕ → Cells → Type 0
IsStart sweep number road =
    IsEvenlySpaced sweep.setup.shape.lanes sweep.setup.shape.length sweep.setup.shape.limit
    (slice_index_or sweep.cars number 0) road

-- the roads of these seeds are those from which points of the sweep start, in their order, from the point
-- `first` on
abbrev pub AreSeeds : Sweep → ℕ → List BookSeed → Type 0
AreSeeds sweep first seeds =
    (number i : ℕ) (seed : BookSeed) → number ≡ first + i → i < length seeds
    → IsStart sweep number (slice_index_or seeds i seed).road

-- a point of a sweep with this common part: road `number` has its `cars` cars evenly spaced at the start, and
-- the point has the counts after all steps of the run
pub record IsPoint (setup : Setup) (number cars : ℕ) (point : Point) : Type 0 where
  pub start : Cells
  pub tally : StepTally
  pub even : IsEvenlySpaced setup.shape.lanes setup.shape.length setup.shape.limit cars start
  pub counted : IsTallyAt (point_seed setup number start) (sweep_sheet setup) (all_steps setup.span) tally
  pub told : point ≡ point_of setup cars tally

-- the points of a sweep, one for each number of cars and in the same order; roads are numbered in this order,
-- from 0
pub record ArePoints (sweep : Sweep) (points : List Point) : Type 0 where
  pub one_each : length points ≡ length sweep.cars
  pub each : (i cars : ℕ) (point : Point) → i < length sweep.cars
      → IsPoint sweep.setup i (slice_index_or sweep.cars i cars) (slice_index_or points i point)

-- the first points of a sweep, in the order of its numbers of cars; each has at least one cell and one
-- counted step
pub record AreFirstPoints (sweep : Sweep) (points : List Point) : Type 0 where
  pub few : length points ≤ length sweep.cars
  pub each : (i cars : ℕ) (point : Point) → i < length points
      → IsPoint sweep.setup i (slice_index_or sweep.cars i cars) (slice_index_or points i point)
  pub measured : All IsMeasured points

-- a complete output for a sweep: the table of its points, which is not a rejection
abbrev pub IsOutputForSweep : Sweep → Outputs
IsOutputForSweep sweep rejected out =
    (rejected ≡ false) × ((points : List Point) × (ArePoints sweep points × (out ≡ points_text points)))

-- a complete output of `sweep` for a text, marked as a rejection or not: the table of the sweep's points, or,
-- as a rejection, the line of the text's first fault
abbrev pub IsSweepOutput : List ℕ → Outputs
IsSweepOutput text rejected out = IsOutputForText ParsesAsSweep IsOutputForSweep text rejected out

-- a call with the contract `pre` and `post` can be made for any sweep, and returns the sweep's table unless
-- it fails
abbrev pub ReturnsTable : {A B E : Type 0} → (A → Bor Sweep → Type 0)
    → (A → Bor Sweep → Result (Vec ℕ B) E → Type 0) → Type 0
ReturnsTable pre post = (alloc : _) (sweep : Bor Sweep) → pre alloc sweep
    × ((returned : _) → post alloc sweep returned
    → IfOk returned (λ table. IsOutputForSweep sweep.now false table.items))

-- The points of a sweep are under a triangle in the fundamental diagram, or on it.

-- the number of empty cells at a point
abbrev pub empty_cells_at : Point → ℕ
empty_cells_at point = point.cells - point.cars

-- the maximum distance, in cells, of all cars of a point together in a step: the limit times the number of
-- cars, or the number of empty cells, whichever is smaller. For example, with the limit 5, it is 50 cells for
-- 10 cars on 100 cells, and 70 for 30 cars
abbrev pub max_distance_at : ℕ → Point → ℕ
max_distance_at limit point = min (limit * point.cars) (empty_cells_at point)

-- the flow at a point, in millionths, rounded down, if the cars together go this distance in every step
abbrev pub steady_flow : Point → ℕ → ℕ
steady_flow point distance = distance * 1000000 / point.cells

-- a point under the triangle or on it: it has at most as many cars as cells, and its mean distance per step
-- is at most the number of empty cells and at most the limit times the number of cars; so its flow is at most
-- 1 minus the density, and at most the limit times the density
pub record IsUnderTriangle (limit : ℕ) (point : Point) : Type 0 where
  pub room : point.cars ≤ point.cells
  pub by_empty_cells : point.distance ≤ point.steps * empty_cells_at point
  pub by_limit : point.distance ≤ point.steps * (limit * point.cars)
  pub flow_by_empty_cells : flow_of point ≤ steady_flow point (empty_cells_at point)
  pub flow_by_limit : flow_of point ≤ steady_flow point (limit * point.cars)

-- every point of every sweep's table is under the triangle or on it, under any rule
abbrev pub SweepsStayUnderTriangle : Type 0
SweepsStayUnderTriangle =
    (text : List ℕ) (sweep : Sweep) (points : List Point)
    → ParsesAsSweep text (Ok sweep) → ArePoints sweep points
    → All (IsUnderTriangle sweep.setup.shape.limit) points

-- the flow at this point is at most the peak of the triangle, v / (v + 1) for the limit v, and so is its mean
-- distance per cell and step; for v = 5, the peak is 833333 millionths
pub record IsAtMostPeak (limit : ℕ) (point : Point) : Type 0 where
  pub mean_distance_bounded : (limit + 1) * point.distance ≤ point.steps * (limit * point.cells)
  pub flow_bounded : flow_of point ≤ limit * 1000000 / (limit + 1)

-- no point of any sweep's table is above the peak of the triangle, under any rule
abbrev pub SweepsDoNotExceedPeak : Type 0
SweepsDoNotExceedPeak =
    (text : List ℕ) (sweep : Sweep) (points : List Point)
    → ParsesAsSweep text (Ok sweep) → ArePoints sweep points
    → All (IsAtMostPeak sweep.setup.shape.limit) points

-- the mean speed of the moving cars at a point is from one cell per step to the limit; a car is counted as
-- moving or stopped once per step
pub record HasBoundedMovingSpeed (limit : ℕ) (point : Point) : Type 0 where
  pub cell_each : point.steps * point.cars ≤ point.distance + point.stopped
  pub limit_each : point.distance + limit * point.stopped ≤ point.steps * (limit * point.cars)

-- at every point of every sweep's table, the mean speed of the moving cars is from one cell per step to the
-- limit, under any rule
abbrev pub SweepsBoundMovingSpeed : Type 0
SweepsBoundMovingSpeed =
    (text : List ℕ) (sweep : Sweep) (points : List Point)
    → ParsesAsSweep text (Ok sweep) → ArePoints sweep points
    → All (HasBoundedMovingSpeed sweep.setup.shape.limit) points

-- a point on the triangle: its mean distance per step is the maximum distance, and its flow is the
-- `steady_flow` of the maximum distance
pub record IsOnTriangle (limit : ℕ) (point : Point) : Type 0 where
  pub distance : point.distance ≡ point.steps * max_distance_at limit point
  pub flow : flow_of point ≡ steady_flow point (max_distance_at limit point)

-- the rule that the sixth line of a sweep text states, or the cause of its fault; a missing line counts as an
-- empty one, with the cause `Line`
abbrev pub stated_rule : List ℕ → Result (RuleLine ℕ) Cause
stated_rule text = rule_line (slice_index_or (lines_of text) 5 [])

-- a sweep text with this common part asks for the triangle: its sixth line is `rule nasch 0`, the
-- Nagel-Schreckenberg model without randomization; it has one lane; and it counts no step before all cars
-- could reach the limit
pub record AsksForTriangle (text : List ℕ) (common : Setup) : Type 0 where
  pub rule : stated_rule text ≡ Ok (Nasch 0)
  pub lanes : common.shape.lanes ≡ 1
  pub warm : common.shape.limit ≤ common.span.warm + 1

-- every point of the table of a sweep text that asks for the triangle is on the triangle
abbrev pub DiagramIsTriangle : Type 0
DiagramIsTriangle =
    (text : List ℕ) (sweep : Sweep) (points : List Point)
    → ParsesAsSweep text (Ok sweep) → ArePoints sweep points → AsksForTriangle text sweep.setup
    → All (IsOnTriangle sweep.setup.shape.limit) points
