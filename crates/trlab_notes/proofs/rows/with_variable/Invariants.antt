use Rattle.std.proofs.Common.{◌≡◌, ℕ, ◌<◌, length, nat_eq, cond}
use Rattle.trlab_bounds.specs.declared.programs.TheConstants.{VARIABLES}
use Rattle.trlab_notes.specs.Rows.{level_in, level_of}
use Rattle.trlab_notes.proofs.rows.with_variable.Given as goal

abbrev pub invariant-loop-x : goal.invariant-loop-x
invariant-loop-x l = record {
  all : length l.changed ≡ VARIABLES;
  so_far : (k : ℕ) → k < l.x → (y : ℕ) → y < VARIABLES → level_of l.changed k y ≡
      cond (nat_eq k l.fn.variable) (level_in l.fn.row y) (cond (nat_eq y l.fn.variable) (level_in l.fn.column k) (level_of l.rows k y));
}
