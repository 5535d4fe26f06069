use Rattle.std.proofs.Common.{◌≡◌, ℕ, ◌<◌, length, get_or}
use Rattle.trlab_bounds.specs.declared.programs.TheConstants.{VARIABLES}
use Rattle.trlab_notes.specs.{declared.note.AbstractValue.TheVariants.Unknown, Notes.{with_side, join_values}}
use Rattle.trlab_notes.proofs.strength.join_variables.Given as goal

abbrev pub invariant-loop-x : goal.invariant-loop-x
invariant-loop-x l = (length l.values ≡ VARIABLES) × ((k : ℕ) → k < l.x → get_or l.values k Unknown ≡ join_values (with_side l.a.side (get_or l.a.values k Unknown)) (with_side l.b.side (get_or l.b.values k Unknown)))
