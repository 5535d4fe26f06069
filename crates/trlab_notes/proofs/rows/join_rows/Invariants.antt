use Rattle.std.proofs.Common.{◌≡◌, ℕ, ◌<◌, length, min}
use Rattle.trlab_bounds.specs.declared.programs.TheConstants.{VARIABLES}
use Rattle.trlab_notes.specs.Rows.{level_of}
use Rattle.trlab_notes.proofs.rows.join_rows.Given as goal

abbrev pub invariant-loop-x : goal.invariant-loop-x
invariant-loop-x l = record {
  all : length l.common ≡ VARIABLES;
  so_far : (k : ℕ) → k < l.x → (y : ℕ) → y < VARIABLES → level_of l.common k y ≡ min (level_of l.a k y) (level_of l.b k y);
}
