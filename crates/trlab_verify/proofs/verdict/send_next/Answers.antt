use Rattle.std.proofs.Common.{◌≡◌, sym, cond, nat_eq, add-one, suc, Some}
use Rattle.trlab_notes.specs.{Transfer.next_note, Stored.{note_of, stored_note_at}}
use Rattle.trlab_verify.{specs.Verdict.add_note, proofs.Verdicts.edge_comes}
use Rattle.trlab_verify.proofs.verdict.send_next.Goals as goal

pub returns-in-Some : goal.returns-in-Some
returns-in-Some c = λ q le.
    let e : stored_note_at c.add_incoming.new.notes q ≡ cond (nat_eq q (suc c.args.pc)) (add_note (stored_note_at c.args.notes.now (suc c.args.pc)) (Some (note_of c.in-Some.falling))) (stored_note_at c.args.notes.now q) = rw add-one at (c.add_incoming.ensures q) in
    edge_comes (stored_note_at c.args.notes.now) (stored_note_at c.add_incoming.new.notes) (suc c.args.pc) q (note_of c.in-Some.falling) (next_note (note_of c.args.note.now) c.args.instr) e (sym c.in-Some.ensures)
