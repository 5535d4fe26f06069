-- The cars of a road in standing order, cut into adjacent segments. A ticket is the number of a segment.
use Rattle.std.specs.{Prelude.{ℕ, ◌+◌, ◌-◌, ◌*◌, ◌/◌, min, List}, List.range_with_len}

-- the number of segments of `cars` cars for some workers: four per worker, but at most one per car. For
-- example, for 2 workers 100 cars are cut into 8 segments, and 3 cars into 3
abbrev pub segment_count : ℕ → ℕ → ℕ
segment_count cars workers = min cars (4 * workers)

-- the index in standing order of the first car of segment i, if `cars` cars are cut into `count` segments;
-- for i = `count` it is the number of cars. For example, 10 cars are cut into 4 segments at 0, 2, 5, 7 and 10
abbrev pub first_car : ℕ → ℕ → ℕ → ℕ
first_car cars count i = i * cars / count

-- the indices in standing order of the cars of segment i, up to the first car of the next segment. For
-- example, segment 1 of 10 cars in 4 segments has the cars 2, 3 and 4
abbrev pub segment : ℕ → ℕ → ℕ → List ℕ
segment cars count i =
    range_with_len (first_car cars count i) (first_car cars count (i + 1) - first_car cars count i)
