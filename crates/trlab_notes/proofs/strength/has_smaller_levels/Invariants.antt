use Rattle.std.proofs.Common.{ℕ, ◌<◌, ◌≤◌}
use Rattle.trlab_bounds.specs.declared.programs.TheConstants.{VARIABLES}
use Rattle.trlab_notes.specs.Rows.{level_of}
use Rattle.trlab_notes.proofs.strength.has_smaller_levels.Given as goal

abbrev pub invariant-loop-x : goal.invariant-loop-x
invariant-loop-x l = (j : ℕ) → j < l.x → (k : ℕ) → k < VARIABLES → level_of l.m.rows j k ≤ level_of l.n.rows j k
