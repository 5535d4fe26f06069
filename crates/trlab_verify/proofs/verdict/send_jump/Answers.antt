use Rattle.std.proofs.Common.{◌≡◌, sym, ap, subst, Some}
use Rattle.trlab_notes.specs.{Transfer.jump_note, Stored.{note_of, stored_note_at}}
use Rattle.trlab_verify.{specs.Verdict.{add_note, if_here, is_target}, proofs.Verdicts.edge_comes}
use Rattle.trlab_verify.proofs.verdict.send_jump.Goals as goal

pub returns-then-to-notes : goal.returns-then-to-notes
returns-then-to-notes c = λ q le.
    let e = edge_comes (stored_note_at c.args.notes.now) (stored_note_at c.add_incoming.new.notes) c.in-Some.target q (note_of c.jump_note.result) (Some (jump_note (note_of c.args.note.now) c.args.instr)) (c.add_incoming.ensures q) (ap Some (sym c.jump_note.ensures)) in
    subst (λ z. stored_note_at c.add_incoming.new.notes q ≡ add_note (stored_note_at c.args.notes.now q) (if_here (is_target z q) (Some (jump_note (note_of c.args.note.now) c.args.instr)))) c.in-Some.ensures e
