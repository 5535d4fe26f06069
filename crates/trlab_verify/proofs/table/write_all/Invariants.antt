use Rattle.std.proofs.Common.{◌≡◌, ℕ, ◌<◌, length, Some}
use Rattle.trlab_notes.specs.{Stored.stored_note_at, Notes.entry}
use Rattle.trlab_verify.specs.Tables.{meaning_at}
use Rattle.trlab_verify.proofs.table.write_all.Given as goal

abbrev pub invariant-loop-pc : goal.invariant-loop-pc
invariant-loop-pc l = record {
  all : length l.notes.items ≡ l.pc;
  first : 0 < l.pc → meaning_at l.fn.kind l.notes.items 0 ≡ entry l.fn.kind;
  later : (k : ℕ) → 0 < k → k < l.pc → stored_note_at l.stored k ≡ Some (meaning_at l.fn.kind l.notes.items k);
}
