use Rattle.std.proofs.Common.{◌≡◌, ℕ, ◌<◌, get_or, length}
use Rattle.trlab_notes.specs.declared.note.AbstractValue.TheVariants.{Unknown}
use Rattle.trlab_verify.specs.{declared.note.Mark.TheVariants.Unset, Tables.mark_value}
use Rattle.trlab_verify.proofs.note.write.Given as goal

abbrev pub invariant-loop-x : goal.invariant-loop-x
invariant-loop-x l = record {
  all : length l.regs ≡ 8;
  so_far : (k : ℕ) → k < l.x → mark_value (get_or l.regs k Unset) ≡ get_or l.note.values k Unknown;
}
