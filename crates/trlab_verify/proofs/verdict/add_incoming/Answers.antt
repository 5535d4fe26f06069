use Rattle.std.proofs.{Common.{◌∙◌, ap, cond, nat_eq, None}, lemmas.List.get_or_default}
use Rattle.trlab_notes.specs.Stored.{stored_note_at}
use Rattle.trlab_verify.proofs.Verdicts.{set_is, joins_none, joins_some}
use Rattle.trlab_verify.proofs.verdict.add_incoming.Goals.{in-None, in-Some}
use Rattle.trlab_verify.proofs.verdict.add_incoming.Goals as goal

pub returns : goal.returns
returns c = λ q.
    set_is c.args.notes.now c.args.pc c.match-notes-pc.notes c.requires q ∙ ap (λ z. cond (nat_eq q c.args.pc) z (stored_note_at c.args.notes.now q)) (elim c.match-notes-pc.branch [
      | in-None w ↦ joins_none c.args.notes.now c.args.pc c.args.note w.join_itself.result c.match-notes-pc.notes (get_or_default c.args.notes.now c.args.pc None _ c.requires ∙ w.in-None.is) w.notes-is w.join_itself.ensures
      | in-Some w ↦ joins_some c.args.notes.now c.args.pc w.in-Some.old c.args.note w.join.result c.match-notes-pc.notes (get_or_default c.args.notes.now c.args.pc None _ c.requires ∙ w.in-Some.is) w.notes-is w.join.ensures
    ])
