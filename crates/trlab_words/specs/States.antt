-- ChaCha20 states: the first column round, which the cars of a step share, and eight blocks side by side.
use Rattle.std.specs.Prelude.{◌≡◌, ℕ, ◌*◌, ◌^◌, List, [], ◌∷◌, slice_index}
use Rattle.rand_chacha.specs.Block.{quarter_round_at, initial_state}
use Rattle.rand_core.specs.Steps.{u32_at}
use Rattle.trlab_words.specs.declared.block.{Quarter.Quarter, States.States}

-- The first column round of ChaCha20 for the random words of a step, in two parts: three columns of the state
-- are the same for all cars, and one column has the number of the car, which is word 14 of the state.

-- the state with the number of a car as its word 14; its other fifteen words are unchanged
abbrev pub with_car : List ℕ → ℕ → List ℕ
with_car state car_number =
    slice_index state 0 ∷ slice_index state 1 ∷ slice_index state 2 ∷ slice_index state 3
    ∷ slice_index state 4 ∷ slice_index state 5 ∷ slice_index state 6 ∷ slice_index state 7
    ∷ slice_index state 8 ∷ slice_index state 9 ∷ slice_index state 10 ∷ slice_index state 11
    ∷ slice_index state 12 ∷ slice_index state 13 ∷ car_number ∷ slice_index state 15 ∷ []

-- the initial ChaCha20 state for the random words of car 0 in a step of a run
abbrev pub step_state : List ℕ → ℕ → ℕ → List ℕ
step_state key road_number step = initial_state key step (road_number * 2 ^ 32)

-- the state after a quarter round on each of the three columns that are the same for all cars: all but the
-- third, which has word 14
unfoldable pub shared_columns : List ℕ → List ℕ
shared_columns state =
    let q0 = quarter_round_at state 0 4 8 12 in
    let q1 = quarter_round_at state 1 5 9 13 in
    let q3 = quarter_round_at state 3 7 11 15 in
    q0.0 ∷ q1.0 ∷ slice_index state 2 ∷ q3.0
    ∷ q0.1 ∷ q1.1 ∷ slice_index state 6 ∷ q3.1
    ∷ q0.2 ∷ q1.2 ∷ slice_index state 10 ∷ q3.2
    ∷ q0.3 ∷ q1.3 ∷ slice_index state 14 ∷ q3.3 ∷ []

-- the state after a quarter round on its third column, which has word 14
unfoldable pub car_column : List ℕ → List ℕ
car_column state =
    let q = quarter_round_at state 2 6 10 14 in
    slice_index state 0 ∷ slice_index state 1 ∷ q.0 ∷ slice_index state 3
    ∷ slice_index state 4 ∷ slice_index state 5 ∷ q.1 ∷ slice_index state 7
    ∷ slice_index state 8 ∷ slice_index state 9 ∷ q.2 ∷ slice_index state 11
    ∷ slice_index state 12 ∷ slice_index state 13 ∷ q.3 ∷ slice_index state 15 ∷ []

-- `initial` is the initial ChaCha20 state of a step, for car 0, and `columns` is this state after the quarter
-- rounds on its three columns without word 14
abbrev pub StartsStep : List ℕ → ℕ → ℕ → List ℕ → List ℕ → Type 0
StartsStep key road_number step initial columns =
    (initial ≡ step_state key road_number step)
    × (columns ≡ shared_columns (step_state key road_number step))

-- The ChaCha20 states of eight blocks, computed side by side. A quarter is one column or diagonal of each
-- state: it has four words of each block, `a` to `d`, and keeps the words `d` as bytes.

-- the four words of block j in a quarter of the eight states
abbrev pub words_in : ℕ → Quarter → ℕ × ℕ × ℕ × ℕ
words_in j quarter =
    (slice_index quarter.a j, slice_index quarter.b j, slice_index quarter.c j, u32_at quarter.d j)

-- the state of block j, one of the eight states x: its sixteen words, row by row
abbrev pub state_in : ℕ → States → List ℕ
state_in j x =
    slice_index x.first.a j ∷ slice_index x.second.a j ∷ slice_index x.third.a j ∷ slice_index x.fourth.a j
    ∷ slice_index x.first.b j ∷ slice_index x.second.b j ∷ slice_index x.third.b j ∷ slice_index x.fourth.b j
    ∷ slice_index x.first.c j ∷ slice_index x.second.c j ∷ slice_index x.third.c j ∷ slice_index x.fourth.c j
    ∷ u32_at x.first.d j ∷ u32_at x.second.d j ∷ u32_at x.third.d j ∷ u32_at x.fourth.d j ∷ []
