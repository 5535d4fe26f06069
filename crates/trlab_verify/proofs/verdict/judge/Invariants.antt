use Rattle.std.proofs.Common.{◌≡◌, ℕ, ◌<◌, ◌≤◌, length, None}
use Rattle.trlab_notes.specs.{Notes.maybe_closure, Stored.stored_note_at}
use Rattle.trlab_verify.specs.Verdict.{incoming, note_at, reason_number_at}
use Rattle.trlab_verify.proofs.verdict.judge.Given as goal

abbrev pub invariant-loop-pc : goal.invariant-loop-pc
invariant-loop-pc l = record {
  incoming_so_far : (q : ℕ) → l.pc ≤ q → q < length l.instrs → stored_note_at l.notes q ≡ maybe_closure (incoming l.kind l.instrs l.pc q);
  done : (q : ℕ) → q < l.pc → stored_note_at l.notes q ≡ maybe_closure (note_at l.kind l.instrs q);
  no_fault : (p : ℕ) → p < l.pc → reason_number_at l.kind (record { kind = l.own; instrs = l.instrs }) p ≡ None;
}
