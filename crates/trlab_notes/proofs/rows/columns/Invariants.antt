use Rattle.std.proofs.Common.{◌≡◌, ℕ, ◌<◌, length}
use Rattle.trlab_bounds.specs.declared.programs.TheConstants.{VARIABLES}
use Rattle.trlab_notes.specs.Rows.{level_of}
use Rattle.trlab_notes.proofs.rows.columns.Given as goal

abbrev pub invariant-loop-y : goal.invariant-loop-y
invariant-loop-y l = record {
  all : length l.columns ≡ VARIABLES;
  so_far : (k : ℕ) → k < l.y → (x : ℕ) → x < VARIABLES → level_of l.columns k x ≡ level_of l.rows x k;
}
