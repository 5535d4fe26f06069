use Rattle.std.proofs.Common.{◌≡◌, ℕ, ap, sym, subst, arith, Some}
use Rattle.trlab_notes.specs.{Stored.note_of, Transfer.jump_note, Notes.IsNoStronger}
use Rattle.trlab_verify.{specs.Tables.meaning_at, proofs.Forms.{sent_in, sent_out}}
use Rattle.trlab_verify.proofs.for_embedders.checks_target.Goals as goal

pub returns-else-to-table : goal.returns-else-to-table
returns-else-to-table c =
    let l : ℕ → _ = λ (t : ℕ). meaning_at c.args.kind c.args.table.now t in
    let m = jump_note (note_of c.args.note.now) c.args.instr in
    let n = note_of c.jump_note.result in (
      λ e t et lt.
          let same : c.in-Some.target ≡ t = cc (c.in-Some.ensures, et) in
          subst (λ z. IsNoStronger (l z) m) same (sent_in (l c.in-Some.target) (Some m) n (ap Some c.jump_note.ensures) (c.is_within.ensures.0 e)),
      λ h. c.is_within.ensures.1 (sent_out (l c.in-Some.target) (Some m) n (ap Some c.jump_note.ensures) (h c.in-Some.target (sym c.in-Some.ensures) (let lt = c.if-to-table.false in omega (arith, lt)))),
    )
