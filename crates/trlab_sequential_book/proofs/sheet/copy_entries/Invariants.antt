use Rattle.std.proofs.Common.{◌≡◌, length, take, vec_len, vec_capacity}
use Rattle.trlab_sequential_book.proofs.sheet.copy_entries.Given as goal

abbrev pub invariant-loop-entry : goal.invariant-loop-entry
invariant-loop-entry l = record {
  items : l.copies.items ≡ take l.entry-index l.entries;
  len : vec_len l.copies ≡ l.entry-index;
  room : vec_capacity l.copies ≡ length l.entries;
}
