-- Gaps on a lane, which is a ring: the empty cells ahead and behind, the side cell, and the next car.
use Rattle.std.specs.Prelude.{ℕ, zero, suc, ◌+◌, ◌-◌, ◌%◌, Bool, true, cond, ◌&&◌, Some, None, is_none}
use Rattle.std.specs.Prelude.{length}
use Rattle.trlab_road.specs.Cells.{Cell, Lane, at}

-- the place j cells ahead of place x on a ring of n cells; for example, on a ring of 10 cells, place 1 is 3
-- cells ahead of place 8
abbrev pub ahead : ℕ → ℕ → ℕ → ℕ
ahead n x j = (x + j) % n

-- the place j cells behind place x on a ring of n cells, for j up to n; for example, on a ring of 10 cells,
-- place 8 is 3 cells behind place 1
abbrev pub behind : ℕ → ℕ → ℕ → ℕ
behind n x j = (x + (n - j)) % n

-- are the first g cells of a path empty? The path gives the place of its cell j as `path j`, from cell 1 on;
-- true if g is 0
abbrev pub is_clear : Lane → (ℕ → ℕ) → ℕ → Bool
is_clear lane path zero = true
is_clear lane path (suc g) = is_clear lane path g && is_none (at lane (path (suc g)))

-- the largest number from 1 to n that passes the test; 0 if none does
abbrev pub largest : (ℕ → Bool) → ℕ → ℕ
largest test zero = zero
largest test (suc n) = cond (test (suc n)) (suc n) (largest test n)

-- the number of empty cells at the beginning of a path, before its first car; at most all cells but one
abbrev pub clear_cells : Lane → (ℕ → ℕ) → ℕ
clear_cells lane path = largest (is_clear lane path) (length lane - 1)

-- the number of empty cells from place x to the next car ahead (Nagel and Schreckenberg 1992), or all other
-- cells of the lane if it has no other car; for example, in `2..1.` the gap is 2 at place 0 and 1 at place 3
abbrev pub gap : Lane → ℕ → ℕ
gap lane x = clear_cells lane (ahead (length lane) x)

-- the place of the next car ahead of place x, right after the gap; x itself if the lane has no other car
abbrev pub next_place : Lane → ℕ → ℕ
next_place lane x = ahead (length lane) x (gap lane x + 1)

-- the speed of the car in a cell; 0 if the cell is empty
abbrev pub speed_in : Cell → ℕ
speed_in None = 0
speed_in (Some car) = car.1

-- the speed of the next car ahead of the car at place x; its own speed if it is the only car on its lane
abbrev pub headspeed : Lane → ℕ → ℕ
headspeed lane x = speed_in (at lane (next_place lane x))

-- is the side cell empty, the cell of lane `other` at the same place x?
abbrev pub side : Lane → ℕ → Bool
side other x = is_none (at other x)

-- the number of empty cells ahead of the side cell, which is at place x of lane `other`; 0 if a car is in the
-- side cell (Rickert and others 1996)
abbrev pub sidegap : Lane → ℕ → ℕ
sidegap other x = cond (side other x) (clear_cells other (ahead (length other) x)) 0

-- the number of empty cells behind the side cell, which is at place x of lane `other`; 0 if a car is in the
-- side cell (Rickert and others 1996)
abbrev pub sideback : Lane → ℕ → ℕ
sideback other x = cond (side other x) (clear_cells other (behind (length other) x)) 0
