use Rattle.std.proofs.Common.{◌≡◌, ℕ, ◌<◌, nat_eq, get_or}
use Rattle.trlab_notes.specs.{declared.note.AbstractValue.TheVariants.Unknown, Notes.level_between}
use Rattle.trlab_notes.specs.Rows.{level_in}
use Rattle.trlab_notes.proofs.result.known_row_and_column.Given as goal

abbrev pub invariant-loop-x : goal.invariant-loop-x
invariant-loop-x l = record {
  to : (k : ℕ) → k < l.x → level_in l.row k ≡
      level_between (get_or l.values l.fn.variable Unknown) (get_or l.values k Unknown) (nat_eq l.fn.variable k) (level_in l.fn.to k);
  from : (k : ℕ) → k < l.x → level_in l.column k ≡
      level_between (get_or l.values k Unknown) (get_or l.values l.fn.variable Unknown) (nat_eq k l.fn.variable) (level_in l.fn.from k);
}
