use Rattle.std.proofs.Common.{ℕ, ◌<◌, ◌≤◌, nat_eq, get_or}
use Rattle.trlab_notes.specs.{declared.note.AbstractValue.TheVariants.Unknown, Notes.level_between}
use Rattle.trlab_verify.proofs.note.has_levels_from.Given as goal

abbrev pub invariant-loop-y : goal.invariant-loop-y
invariant-loop-y l = (k : ℕ) → k < l.y → level_between (get_or l.values l.fn.x Unknown) (get_or l.values k Unknown) (nat_eq l.fn.x k) (get_or l.levels k 0) ≤ 2
