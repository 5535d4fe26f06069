-- Detectors, which count the cars that pass the end of a cell, and the cars between two of them. Laws:
-- `detectors_count_flow`, `detectors_count_runs`, `detector_counts_below_peak`, `rows_of_detectors_count`.
use Rattle.std.specs.Prelude.{◌≡◌, ℕ, zero, suc, ◌+◌, ◌-◌, ◌*◌, ◌<◌, ◌≤◌, Bool, length, min, count_by, sum_by}
use Rattle.std.specs.{Prelude.{nat_le, nat_lt, if◌then◌else◌}, List.range_with_len}
use Rattle.trlab_road.specs.{declared.car.Car.Car, Cells.{Lane, Cells, lane_of, lane_car_count, cars}}
use Rattle.trlab_road.specs.{Cells.{IsLegal, standing_from}, Gaps.{ahead, behind}}
use Rattle.trlab_rules.specs.Rules.{Programs}
use Rattle.trlab_machine.specs.declared.dice.Dice.{Dice}
use Rattle.trlab_step.specs.{declared.tally.StepTally.StepTally, Next.IsNext}
use Rattle.trlab_step.specs.Run.{Seed, Sheet, ComesTo, IsRoadAt}
use Rattle.trlab_traffic.specs.Terms.{EachRule, StaysInLane, empty_cells, is_taken, lane_empty_cells}
use Rattle.trlab_traffic.specs.Terms.{min_of_cars_and_empty_cells}

-- The count of a detector in a step, and the cars between two detectors.

-- the number of cells from place `from` ahead to place `to` on a ring of n cells, 0 to n - 1; for example, on
-- a ring of 10 cells it is 3 from place 8 to place 1
abbrev pub cells_ahead_to : ℕ → ℕ → ℕ → ℕ
cells_ahead_to n from to = ahead n to (n - from)

-- the place of a car before the last motion, on a ring of n cells: behind its place by as many cells as its
-- speed
abbrev pub place_before_motion : ℕ → Car → ℕ
place_before_motion n car = behind n car.place car.speed

-- did a car pass the end of cell x in the last motion, on a ring of n cells? Then cell x is less than its
-- speed ahead of its old place. For example, on a ring of 10 cells a car that moved from cell 8 to cell 1
-- passed the ends of cells 8, 9 and 0
abbrev pub has_passed : ℕ → ℕ → Car → Bool
has_passed n x car = nat_lt (cells_ahead_to n (place_before_motion n car) x) car.speed

-- the count of the detector at the end of cell x of a lane: the number of cars that passed it in the step
-- that led to this lane
abbrev pub passages : Lane → ℕ → ℕ
passages lane x = count_by (has_passed (length lane) x) (standing_from 0 0 lane)

-- the counts of all detectors of a lane, one at the end of each cell, added up
abbrev pub all_passages : Lane → ℕ
all_passages lane = sum_by (passages lane) (range_with_len 0 (length lane))

-- under any rule the counts of all detectors of a road, one per cell, add up to the distance of the step, so
-- their mean is the flow
abbrev pub DetectorsCountDistance : Type 0
DetectorsCountDistance =
    (rule : Programs) (dice : Dice) (road next : Cells) (tally : StepTally)
    → IsNext rule dice road next tally → sum_by all_passages next.lanes ≡ tally.distance

-- under any rule a detector counts at most one car in a step, because no car reaches the cell that the next
-- car ahead had before
abbrev pub DetectorCountsAtMostOne : Type 0
DetectorCountsAtMostOne =
    (rule : Programs) (dice : Dice) (road next : Cells) (tally : StepTally) (l x : ℕ)
    → IsNext rule dice road next tally → x < length (lane_of next l) → passages (lane_of next l) x ≤ 1

-- the number of cars in the k cells of a lane that are ahead of cell x; if k is larger than the number of
-- cells, cars are counted again after a lap. For example, on `0.0..` with x = 0 it is 1 for k = 2, and 2 for
-- k = 5
abbrev pub cars_ahead_of : Lane → ℕ → ℕ → ℕ
cars_ahead_of lane x k = count_by (λ j. is_taken lane (ahead (length lane) x j)) (range_with_len 1 k)

-- the continuity equation for the k cells ahead of cell x: from the lane `old` to the lane `new` their number
-- of cars grows by `entered`, the cars that came in past the end of cell x, and shrinks by `left`, the cars
-- that left past the end of the cell k cells ahead
abbrev pub ContinuityHolds : Lane → Lane → ℕ → ℕ → ℕ → ℕ → Type 0
ContinuityHolds old new x k entered left =
    cars_ahead_of new x k + left ≡ cars_ahead_of old x k + entered

-- under any rule without lane changes the continuity equation holds in a step, for any two detectors of a
-- lane, the first at the end of cell x and the second k cells ahead
abbrev pub StepSatisfiesContinuity : Type 0
StepSatisfiesContinuity =
    (rule : Programs) (dice : Dice) (old new : Cells) (tally : StepTally) (l x k : ℕ)
    → StaysInLane rule → IsNext rule dice old new tally → x < length (lane_of old l)
    → let passed = passages (lane_of new l) in
    let end = ahead (length (lane_of old l)) x k in
    ContinuityHolds (lane_of old l) (lane_of new l) x k (passed x) (passed end)

-- The counts of detectors in a run. Like the tally, they begin at step `warm`.

-- after `step` steps of a run the detector at the end of cell x on lane l has counted `count` cars: all
-- that passed it in step `warm` or later
abbrev pub DetectorHasCounted : Seed → Sheet → ℕ → ℕ → ℕ → ℕ → Type 0
DetectorHasCounted seed sheet l x zero count = count ≡ 0
DetectorHasCounted seed sheet l x (suc step) count =
    (road : Cells) × (before : ℕ) × IsRoadAt seed sheet (suc step) road
    × DetectorHasCounted seed sheet l x step before
    × (count ≡ (if nat_le seed.warm step then before + passages (lane_of road l) x else before))

-- after any number of steps of a run the detector at the end of any cell has a count
abbrev pub DetectorCountExists : Type 0
DetectorCountExists =
    (seed : Seed) (sheet : Sheet) (step : ℕ) (road : Cells) (sum : StepTally) (l x : ℕ)
    → ComesTo seed sheet step road sum → (count : ℕ) × DetectorHasCounted seed sheet l x step count

-- after `step` steps of a run two detectors on lane l have counted `first` cars, at the end of cell x, and
-- `second` cars, at the end of the cell k cells ahead
pub record DetectorsHaveCounted (seed : Seed) (sheet : Sheet) (step l x k first second : ℕ) : Type 0 where
  pub is_cell : x < length (lane_of seed.road l)
  pub here : DetectorHasCounted seed sheet l x step first
  pub there : DetectorHasCounted seed sheet l (ahead (length (lane_of seed.road l)) x k) step second

-- under any sheet of rules without lane changes the continuity equation holds for any two detectors of a
-- lane, from the road at step `warm`, at which they begin to count, to the road at any later step
abbrev pub RunSatisfiesContinuity : Type 0
RunSatisfiesContinuity =
    (seed : Seed) (sheet : Sheet) (step : ℕ) (start road : Cells) (l x k first second : ℕ)
    → EachRule StaysInLane sheet → seed.warm ≤ step → IsRoadAt seed sheet seed.warm start
    → IsRoadAt seed sheet step road → DetectorsHaveCounted seed sheet step l x k first second
    → ContinuityHolds (lane_of start l) (lane_of road l) x k first second

-- the numbers `first` and `second` differ by at most k
pub record DifferByAtMost (k first second : ℕ) : Type 0 where
  pub no_less : first ≤ second + k
  pub no_more : second ≤ first + k

-- under any sheet of rules without lane changes the counts of two detectors of a lane differ by at most k,
-- the number of cells from one to the other, however long the run is
abbrev pub DetectorsAgree : Type 0
DetectorsAgree =
    (seed : Seed) (sheet : Sheet) (step : ℕ) (road : Cells) (sum : StepTally) (l x k first second : ℕ)
    → EachRule StaysInLane sheet → ComesTo seed sheet step road sum
    → DetectorsHaveCounted seed sheet step l x k first second → DifferByAtMost k first second

-- under any sheet of rules without lane changes the counts of two detectors of a lane, at most one lap
-- apart, differ by at most the number of its cars, and by at most the number of its empty cells
abbrev pub DetectorsAgreeByCars : Type 0
DetectorsAgreeByCars =
    (seed : Seed) (sheet : Sheet) (step : ℕ) (road : Cells) (sum : StepTally) (l x k first second : ℕ)
    → EachRule StaysInLane sheet → ComesTo seed sheet step road sum → k ≤ length (lane_of seed.road l)
    → DetectorsHaveCounted seed sheet step l x k first second
    → DifferByAtMost (min_of_cars_and_empty_cells (lane_of seed.road l)) first second

-- in a run on one lane, under any sheet of rules, the counts of all detectors add up to the distance;
-- `count x` is the count at the end of cell x
abbrev pub DetectorsCountRun : Type 0
DetectorsCountRun =
    (seed : Seed) (sheet : Sheet) (step : ℕ) (road : Cells) (sum : StepTally) (count : ℕ → ℕ)
    → length seed.road.lanes ≡ 1 → ComesTo seed sheet step road sum
    → ((x : ℕ) → DetectorHasCounted seed sheet 0 x step (count x))
    → sum_by count (range_with_len 0 (length (lane_of seed.road 0))) ≡ sum.distance

-- `count` measures the flow on a ring of n cells: n times `count` differs from `distance` by at most the
-- number of cars times the number of empty cells. A queue that starts right behind the detector and ends
-- right ahead of it differs by as much
abbrev pub MeasuresFlow : Lane → ℕ → ℕ → Type 0
MeasuresFlow lane count distance =
    DifferByAtMost (lane_car_count lane * lane_empty_cells lane) (length lane * count) distance

-- in a run on one lane, under any sheet of rules without lane changes, each detector measures the flow: the
-- bound of its error does not grow with the number of steps
abbrev pub DetectorMeasuresFlow : Type 0
DetectorMeasuresFlow =
    (seed : Seed) (sheet : Sheet) (step : ℕ) (road : Cells) (sum : StepTally) (x count : ℕ)
    → EachRule StaysInLane sheet → length seed.road.lanes ≡ 1 → ComesTo seed sheet step road sum
    → x < length (lane_of seed.road 0) → DetectorHasCounted seed sheet 0 x step count
    → MeasuresFlow (lane_of seed.road 0) count sum.distance

-- under any sheet of rules without lane changes a detector counts at most v cars in the first v + 1 counted
-- steps of a run from a legal road, which is the peak flow v / (v + 1); v is the limit
abbrev pub DetectorCountsBelowPeak : Type 0
DetectorCountsBelowPeak =
    (seed : Seed) (sheet : Sheet) (step l x count : ℕ)
    → EachRule StaysInLane sheet → IsLegal seed.road → x < length (lane_of seed.road l)
    → step ≤ seed.warm + seed.road.limit + 1 → DetectorHasCounted seed sheet l x step count
    → count ≤ seed.road.limit

-- Rows of detectors, with one detector on each lane at the same place, and the cars between two rows. Lane
-- changes take no car past a row.

-- the number of cars in the k cells ahead of place x, on all lanes together
abbrev pub cars_ahead_of_row : Cells → ℕ → ℕ → ℕ
cars_ahead_of_row road x k = sum_by (λ (lane : Lane). cars_ahead_of lane x k) road.lanes

-- the count of the row at place x: the number of cars that passed the end of the cells there in the last
-- step, on all lanes together
abbrev pub row_passages : Cells → ℕ → ℕ
row_passages road x = sum_by (λ (lane : Lane). passages lane x) road.lanes

-- in a step of a legal road, under any rule, the number of cars in the k cells ahead of place x grows by the
-- count of the row at x, and shrinks by the count of the row k cells ahead
abbrev pub StepIsContinuousByRows : Type 0
StepIsContinuousByRows =
    (rule : Programs) (dice : Dice) (old new : Cells) (tally : StepTally) (x k : ℕ)
    → IsLegal old → IsNext rule dice old new tally → x < length (lane_of old 0)
    → let end = ahead (length (lane_of old 0)) x k in
    cars_ahead_of_row new x k + row_passages new end ≡ cars_ahead_of_row old x k + row_passages new x

-- in a run from a legal road, under any sheet of rules, the number of cars in the k cells ahead of place x
-- grows, from step `warm` on, by the count of the row at x, and shrinks by the count of the row k cells
-- ahead; `first l` and `second l` are the counts on lane l
abbrev pub RunSatisfiesContinuityByRows : Type 0
RunSatisfiesContinuityByRows =
    (seed : Seed) (sheet : Sheet) (step : ℕ) (start road : Cells) (x k : ℕ) (first second : ℕ → ℕ)
    → IsLegal seed.road → x < length (lane_of seed.road 0) → seed.warm ≤ step
    → IsRoadAt seed sheet seed.warm start → IsRoadAt seed sheet step road
    → ((l : ℕ) → DetectorHasCounted seed sheet l x step (first l))
    → ((l : ℕ) → DetectorHasCounted seed sheet l (ahead (length (lane_of seed.road 0)) x k) step (second l))
    → let lanes = range_with_len 0 (length seed.road.lanes) in
    cars_ahead_of_row road x k + sum_by second lanes ≡ cars_ahead_of_row start x k + sum_by first lanes

-- in a run from a legal road, under any sheet of rules, the counts of two rows at most one lap apart differ
-- by at most the number of cars, and by at most the number of empty cells, of the whole road; `first l` and
-- `second l` are the counts on lane l
abbrev pub RowsAgree : Type 0
RowsAgree =
    (seed : Seed) (sheet : Sheet) (step : ℕ) (road : Cells) (sum : StepTally) (x k : ℕ) (first second : ℕ → ℕ)
    → IsLegal seed.road → ComesTo seed sheet step road sum
    → x < length (lane_of seed.road 0) → k ≤ length (lane_of seed.road 0)
    → ((l : ℕ) → DetectorHasCounted seed sheet l x step (first l))
    → ((l : ℕ) → DetectorHasCounted seed sheet l (ahead (length (lane_of seed.road 0)) x k) step (second l))
    → let lanes = range_with_len 0 (length seed.road.lanes) in
    DifferByAtMost (min (cars seed.road) (empty_cells seed.road)) (sum_by first lanes) (sum_by second lanes)

-- in a run from a legal road with lanes of n cells, under any sheet of rules, each row measures the flow: n
-- times its count differs from the distance by at most n times the number of cars or of empty cells of the
-- whole road, whichever is smaller; `count l` is the count on lane l
abbrev pub RowMeasuresFlow : Type 0
RowMeasuresFlow =
    (seed : Seed) (sheet : Sheet) (step : ℕ) (road : Cells) (sum : StepTally) (x : ℕ) (count : ℕ → ℕ)
    → IsLegal seed.road → ComesTo seed sheet step road sum → x < length (lane_of seed.road 0)
    → ((l : ℕ) → DetectorHasCounted seed sheet l x step (count l))
    → let cells = length (lane_of seed.road 0) in
    let row = sum_by count (range_with_len 0 (length seed.road.lanes)) in
    DifferByAtMost (cells * min (cars seed.road) (empty_cells seed.road)) (cells * row) sum.distance
