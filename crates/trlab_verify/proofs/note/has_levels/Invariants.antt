use Rattle.std.proofs.Common.{ℕ, ◌<◌, ◌≤◌, [], nat_eq, get_or}
use Rattle.trlab_bounds.specs.declared.programs.TheConstants.{VARIABLES}
use Rattle.trlab_notes.specs.{declared.note.AbstractValue.TheVariants.Unknown, Notes.level_between}
use Rattle.trlab_verify.proofs.note.has_levels.Given as goal

abbrev pub invariant-loop-x : goal.invariant-loop-x
invariant-loop-x l = (k : ℕ) → k < l.x → (y : ℕ) → y < VARIABLES → level_between (get_or l.values k Unknown) (get_or l.values y Unknown) (nat_eq k y) (get_or (get_or l.levels k []) y 0) ≤ 2
