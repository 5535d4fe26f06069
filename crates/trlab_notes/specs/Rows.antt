-- Arrays in the order of the variables' numbers: their abstract values, and levels as numbers and as bits.
use Rattle.std.specs.Prelude.{◌≡◌, ℕ, ◌*◌, ◌<◌, ◌≤◌, max, List, [], nat_eq, slice_index, slice_index_or}
use Rattle.std.specs.Int.{bit_at}
use Rattle.trlab_bounds.specs.declared.programs.TheConstants.{VARIABLES}
use Rattle.trlab_code.specs.{declared.instruction.Variable.Variable, Machine.variable_number}
use Rattle.trlab_notes.specs.{declared.{note.TheConstants.BELOW, rows.LevelRow.LevelRow}, Notes.level_between}
use Rattle.trlab_notes.specs.declared.note.AbstractValue.{AbstractValue, TheVariants.Unknown}

-- the level to variable y in a row, which encodes the levels of one variable to all as bits: 2 (below) if bit
-- y of `below` is 1, 1 (at most) if only bit y of `at_most` is 1, otherwise 0
abbrev pub level_in : LevelRow → ℕ → ℕ
level_in row y = max (bit_at row.at_most y) (2 * bit_at row.below y)

-- the level of variable x to variable y, by their numbers, in a list of rows, one row per variable in the
-- order of their numbers; 0 if x has no row
abbrev pub level_of : List LevelRow → ℕ → ℕ → ℕ
level_of rows x y = level_in (slice_index_or rows x (record { at_most = 0; below = 0 })) y

-- the level of variable x to variable y, by their numbers, in an array whose entry x lists the levels of x to
-- all variables as numbers
abbrev pub level_at : List (List ℕ) → ℕ → ℕ → ℕ
level_at levels x y = slice_index (slice_index_or levels x []) y

-- the abstract value of variable x in an array of the abstract values of all variables; `Unknown` if the
-- array has no entry for x
abbrev pub value_in : List AbstractValue → Variable → AbstractValue
value_in values x = slice_index_or values (variable_number x) Unknown

-- the level of variable x to variable y in an array whose entries list the levels of each variable to all
-- variables as numbers
abbrev pub levels_in : List (List ℕ) → Variable → Variable → ℕ
levels_in levels x y = level_at levels (variable_number x) (variable_number y)

-- the known level of variable x to variable y, by their numbers, from an array of the abstract values of all
-- variables, and the level of x to y in a note
abbrev pub known_level_from : List AbstractValue → ℕ → ℕ → ℕ → ℕ
known_level_from values x y level =
    level_between (slice_index_or values x Unknown) (slice_index_or values y Unknown) (nat_eq x y) level

-- with these abstract values and levels each known level is at most BELOW, the largest level
abbrev pub AreValidLevels : List AbstractValue → List (List ℕ) → Type 0
AreValidLevels values levels = (x y : ℕ) → x < VARIABLES → y < VARIABLES →
    known_level_from values x y (level_at levels x y) ≤ BELOW

-- the levels in the rows are known levels: they include those that follow from the ranges of the abstract
-- values, and are 0 for a variable that is not a number
abbrev pub IncludesRanges : List AbstractValue → List LevelRow → Type 0
IncludesRanges values rows = (x y : ℕ) → x < VARIABLES → y < VARIABLES →
    known_level_from values x y (level_of rows x y) ≡ level_of rows x y

-- the columns are the transposed rows: the level of y to x in `columns` is the level of x to y in `rows`
abbrev pub IsTransposed : List LevelRow → List LevelRow → Type 0
IsTransposed rows columns = (x y : ℕ) → x < VARIABLES → y < VARIABLES →
    level_of columns y x ≡ level_of rows x y
