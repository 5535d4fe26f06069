-- The tables of points and of series, in comma-separated values, and the flow at a point.
use Rattle.std.specs.Prelude.{ℕ, ◌≤◌, ◌*◌, ◌/◌, List, [], ◌∷◌, ◌++◌, map, flat_map, decimal, codes, ◌≡◌}
use Rattle.std.specs.{Prelude.false, List.join_with_byte}
use Rattle.trlab_diagram.specs.declared.point.{Point.Point, LaneCount.LaneCount, Window.Window}
use Rattle.csv.specs.declared.writer.Writer.{Writer}
use Rattle.csv.specs.Writing.{default_writer, writer_setup, writer_pending, fields_written, has_written}

-- The flow at a point of the fundamental diagram.

-- the point has at least one cell and one step, so that it has a flow
pub record IsMeasured (point : Point) : Type 0 where
  pub cells : 1 ≤ point.cells
  pub steps : 1 ≤ point.steps

-- the flow at a point: the distance per cell and step, in millionths, rounded down; for example, 333333 for a
-- distance of 10 in 3 steps on 10 cells
abbrev pub flow_of : Point → ℕ
flow_of point = point.distance * 1000000 / (point.cells * point.steps)

-- The table of points, in comma-separated values.

-- the first line of the table of points: the names of its columns
abbrev pub points_heading : List ℕ
points_heading = codes "cars,cells,steps,distance,stopped,changes,flow"

-- the columns of a point: its counts and its flow
abbrev pub point_columns : Point → List ℕ
point_columns point =
    point.cars ∷ point.cells ∷ point.steps
    ∷ point.distance ∷ point.stopped ∷ point.changes ∷ flow_of point ∷ []

-- the line of a point: its columns in decimal digits, separated by commas
abbrev pub point_line : Point → List ℕ
point_line point = join_with_byte 44 (map decimal (point_columns point))

-- the lines of the table of points: the heading, and a line for each point
abbrev pub table_lines : List Point → List (List ℕ)
table_lines points = points_heading ∷ map point_line points

-- a line, and the LF that ends it
abbrev pub line_text : List ℕ → List ℕ
line_text line = line ++ (10 ∷ [])

-- the table of points: the heading, and a line for each point; each line ends with LF
abbrev pub points_text : List Point → List ℕ
points_text points = flat_map line_text (table_lines points)

-- The table of a series, in comma-separated values.

-- the first line of the table of a series: the names of its columns
abbrev pub series_heading : List ℕ
series_heading = codes
    "step,cars,cells,steps,distance,stopped,changes,flow,cars0,distance0,stopped0,cars1,distance1,stopped1"

-- the columns of a lane: its car-steps, their distance and those with speed 0
abbrev pub lane_columns : LaneCount → List ℕ
lane_columns lane = lane.cars ∷ lane.distance ∷ lane.stopped ∷ []

-- the columns of a window: its step, then the columns of its point, of lane 0 and of lane 1
abbrev pub window_columns : Window → List ℕ
window_columns window =
    window.step ∷ (point_columns window.point ++ (lane_columns window.lane0 ++ lane_columns window.lane1))

-- the line of a window: its columns in decimal digits, separated by commas
abbrev pub window_line : Window → List ℕ
window_line window = join_with_byte 44 (map decimal (window_columns window))

-- the line of a window, and the LF that ends it
abbrev pub window_text : Window → List ℕ
window_text window = line_text (window_line window)

-- the table of a series: the heading, and a line for each window; each line ends with LF
abbrev pub series_text : List Window → List ℕ
series_text windows = line_text series_heading ++ flat_map window_text windows

-- A writer between two lines.

-- the writer has the default setup, has begun no line, and holds no bytes back
abbrev pub IsAtLineStart : {W : Type 0} → Writer W → Type 0
IsAtLineStart writer =
    (writer_setup writer ≡ default_writer)
    × (fields_written writer ≡ 0)
    × (has_written writer ≡ false)
    × (writer_pending writer ≡ [])
