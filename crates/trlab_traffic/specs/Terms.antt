-- The terms in which the laws of traffic are stated: rules and runs, the cells of a road, how far its cars
-- can go in a step, and rotated roads.
use Rattle.std.specs.Prelude.{◌≡◌, ℕ, ◌-◌, ◌*◌, Bool, None, is_some, is_none, [], ◌∷◌, map, All, length, min}
use Rattle.std.specs.{Prelude.{count_by, sum_by}, List.range_with_len}
use Rattle.trlab_road.specs.{Cells.{Lane, Cells, at, lane_car_count, cars}, Gaps.ahead}
use Rattle.trlab_rules.specs.Rules.{Programs}
use Rattle.trlab_step.specs.Run.{Seed, Sheet}

-- Rules and runs.

-- a rule without lane changes: it has no change program
abbrev pub StaysInLane : Programs → Type 0
StaysInLane rule = rule.change ≡ None

-- each rule of a sheet has this property; for example, in `EachRule StaysInLane sheet` no rule of the sheet
-- has lane changes
abbrev pub EachRule : (Programs → Type 0) → Sheet → Type 0
EachRule Property sheet = All (λ (entry : ℕ × Programs). Property entry.1) sheet

-- the sheet with only this rule, from step 0 on
abbrev pub always : Programs → Sheet
always rule = (0, rule) ∷ []

-- the number of counted steps among the first `step` steps of a run: all but the first `warm` steps, and 0 if
-- `step` is at most `warm`
abbrev pub counted_steps : Seed → ℕ → ℕ
counted_steps seed step = step - seed.warm

-- the same seed with another initial road
abbrev pub seed_from : Seed → Cells → Seed
seed_from seed front = record seed { road = front }

-- The cells of a road, taken or empty.

-- is there a car in cell x of a lane?
abbrev pub is_taken : Lane → ℕ → Bool
is_taken lane x = is_some (at lane x)

-- the number of cells of a lane, taken or empty
abbrev pub lane_cells : Lane → ℕ
lane_cells lane = length lane

-- the number of empty cells of a lane
abbrev pub lane_empty_cells : Lane → ℕ
lane_empty_cells lane = count_by is_none lane

-- the number of cells of a road, taken or empty, on all lanes together
abbrev pub all_cells : Cells → ℕ
all_cells road = sum_by lane_cells road.lanes

-- the number of empty cells of a road, on all lanes together
abbrev pub empty_cells : Cells → ℕ
empty_cells road = sum_by lane_empty_cells road.lanes

-- the number of cars of a lane or the number of its empty cells, whichever is smaller
abbrev pub min_of_cars_and_empty_cells : Lane → ℕ
min_of_cars_and_empty_cells lane = min (lane_car_count lane) (lane_empty_cells lane)

-- How far the cars of a road or a lane can go in one step.

-- the distance of a step in which each car of a road drives at the limit
abbrev pub distance_at_limit : Cells → ℕ
distance_at_limit road = road.limit * cars road

-- the maximum distance of all cars of a road in a step, in cells: the limit times the number of cars, or the
-- number of empty cells, whichever is smaller. For example, on 20 cells with the limit 5 it is 15 for 3 cars,
-- and 10 for 10 cars
abbrev pub max_distance : Cells → ℕ
max_distance road = min (distance_at_limit road) (empty_cells road)

-- the maximum distance of all cars of one lane in a step, in cells: the limit times the number of its cars,
-- or the number of its empty cells, whichever is smaller
abbrev pub lane_max_distance : ℕ → Lane → ℕ
lane_max_distance limit lane = min (limit * lane_car_count lane) (lane_empty_cells lane)

-- Rotated lanes and roads.

-- the lane rotated by r cells: each place has the cell that was r cells ahead of it. For example, the cells
-- a, b, c, d rotated by 1 are b, c, d, a
abbrev pub rotate_lane : ℕ → Lane → Lane
rotate_lane r lane = map (λ x. at lane (ahead (length lane) x r)) (range_with_len 0 (length lane))

-- the road with all lanes rotated by r cells; the cars keep their lanes, numbers and speeds
abbrev pub rotate_road : ℕ → Cells → Cells
rotate_road r road = record { limit = road.limit; lanes = map (rotate_lane r) road.lanes }
