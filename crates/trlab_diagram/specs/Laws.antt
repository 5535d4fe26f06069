-- Laws of tables.
use Rattle.std.specs.Prelude.{◌≡◌, ◌<◌, ◌^◌, List, All}
use Rattle.trlab_diagram.specs.{declared.point.Point.Point, Tables.points_text}

-- each count of the point is below 2^64
pub record CountsFit64Bits (point : Point) : Type 0 where
  pub cars : point.cars < 2 ^ 64
  pub cells : point.cells < 2 ^ 64
  pub steps : point.steps < 2 ^ 64
  pub distance : point.distance < 2 ^ 64
  pub stopped : point.stopped < 2 ^ 64
  pub changes : point.changes < 2 ^ 64

-- the table determines the points: two lists of points with the same table are equal, if all counts are below
-- 2^64
abbrev pub TableDeterminesPoints : Type 0
TableDeterminesPoints = (points others : List Point) → All CountsFit64Bits points → All CountsFit64Bits others
    → points_text points ≡ points_text others → points ≡ others
