use Rattle.std.proofs.Common.{sym, subst, arith, refl}
use Rattle.trlab_notes.{proofs.Tables.stored_two, specs.{Stored.note_of, Notes.IsNoStronger}}
use Rattle.trlab_verify.{specs.Tables.meaning, proofs.Forms.{over_settled, over_note}}
use Rattle.trlab_verify.proofs.for_embedders.is_within.Goals as goal

pub returns-in-Some : goal.returns-in-Some
returns-in-Some c =
    let w = meaning c.args.kind c.args.form.now in
    let n = note_of c.args.note.now in (
      λ e. over_settled w n (subst (λ z. IsNoStronger z n) c.in-Some.ensures.stored (c.is_no_stronger.ensures.0 e)),
      λ h. c.is_no_stronger.ensures.1 (subst (λ z. IsNoStronger z n) (sym c.in-Some.ensures.stored) (over_note w n h)),
    )

pub returns-in-None : goal.returns-in-None
returns-in-None c = (
  λ e. absurd (cc e),
  λ h. absurd (c.in-None.ensures.none refl (λ x y. let f = h.order x y in let g = stored_two c.args.note.now x y in omega (arith, f, g))),
)
