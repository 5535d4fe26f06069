-- Loops that fill a row variable by variable, or a table row by row: the part that is correct grows by one.
use Rattle.std.proofs.Common.{◌≡◌, ℕ, ◌+◌, ◌<◌, ◌∙◌, List, length, set, Bool, true, false, nat_eq, cond, refl}
use Rattle.std.proofs.{Common.{arith, eqb-true, get_or-set_same, get_or-set_other}, lemmas.Bool.eqb-false}
use Rattle.trlab_bounds.specs.declared.programs.TheConstants.{VARIABLES}
use Rattle.trlab_notes.specs.{declared.rows.LevelRow.LevelRow, Rows.{level_in, level_of}}

level_at_variable : (level : ℕ → ℕ) (x v u y : ℕ) (same : Bool) → nat_eq y x ≡ same → v ≡ level x → (y < x → u ≡ level y) → y < x + 1 → cond same v u ≡ level y
level_at_variable level x v u y true eb e old lt = let same : y ≡ x = eqb-true y x eb in rw same e
level_at_variable level x v u y false eb e old lt = let other = eqb-false y x eb in old (omega (arith, other))

-- a row after variable x has its level
pub more_variables : (level : ℕ → ℕ) (row old : LevelRow) (x v : ℕ) →
    ((y : ℕ) → y < VARIABLES → level_in row y ≡ cond (nat_eq y x) v (level_in old y)) → x < VARIABLES → v ≡ level x →
    ((y : ℕ) → y < x → level_in old y ≡ level y) → (y : ℕ) → y < x + 1 → level_in row y ≡ level y
more_variables level row old x v new within e so_far y lt =
    new y (omega arith) ∙ level_at_variable level x v (level_in old y) y (nat_eq y x) refl e (so_far y) lt

row_at : (level : ℕ → ℕ → ℕ) (rows : List LevelRow) (x : ℕ) (row : LevelRow) (k : ℕ) (same : Bool) → nat_eq k x ≡ same → x < length rows →
    ((y : ℕ) → y < VARIABLES → level_in row y ≡ level x y) →
    ((k : ℕ) → k < x → (y : ℕ) → y < VARIABLES → level_of rows k y ≡ level k y) →
    k < x + 1 → (y : ℕ) → y < VARIABLES → level_of (set rows x row) k y ≡ level k y
row_at level rows x row k true eb within new so_far lt y inside =
    let same : k ≡ x = eqb-true k x eb in
    rw (same, get_or-set_same rows x row (record { at_most = 0; below = 0 }) within) (new y inside)
row_at level rows x row k false eb within new so_far lt y inside =
    let other = eqb-false k x eb in
    rw (get_or-set_other rows x k row (record { at_most = 0; below = 0 }) other) (so_far k (omega (arith, other)) y inside)

-- a table after x has its row
pub more_rows : (level : ℕ → ℕ → ℕ) (rows : List LevelRow) (x : ℕ) (row : LevelRow) → x < length rows →
    ((y : ℕ) → y < VARIABLES → level_in row y ≡ level x y) →
    ((k : ℕ) → k < x → (y : ℕ) → y < VARIABLES → level_of rows k y ≡ level k y) →
    (k : ℕ) → k < x + 1 → (y : ℕ) → y < VARIABLES → level_of (set rows x row) k y ≡ level k y
more_rows level rows x row within new so_far k lt = row_at level rows x row k (nat_eq k x) refl within new so_far lt
