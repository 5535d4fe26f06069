use Rattle.std.proofs.Common.{ℕ, ◌<◌, get_or}
use Rattle.trlab_notes.specs.declared.note.AbstractValue.TheVariants.{Unknown}
use Rattle.trlab_notes.specs.Notes.{with_side, IsNoMorePrecise}
use Rattle.trlab_notes.proofs.strength.has_weaker_variables.Given as goal

abbrev pub invariant-loop-x : goal.invariant-loop-x
invariant-loop-x l = (k : ℕ) → k < l.x → IsNoMorePrecise (with_side l.m.side (get_or l.m.values k Unknown)) (with_side l.n.side (get_or l.n.values k Unknown))
