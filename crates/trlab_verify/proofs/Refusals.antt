-- No table of notes checks for a rejected program.
use Rattle.std.proofs.Common.{◌≡◌, ◌≢◌, ◌∙◌, ◌⊎◌, ℕ, refl, sym, subst, inl, inr, Option, Some, None}
use Rattle.trlab_code.specs.{declared.program.Kind.{Kind, TheVariants.{Motion, Change}}, Program.Program}
use Rattle.trlab_verify.specs.{Tables.{HasCertificate, note_in}, Verdict.IsRefused}
use Rattle.trlab_verify.proofs.{Checking.by_notes, Best.accepted, Other.other_kind}

none_and_some : (o : Option ℕ) (r : ℕ) → o ≡ None → o ≡ Some r → ⊥
none_and_some o r e f = cc (sym e ∙ f)

-- none for the kind as which it was verified
pub called : (kind : Kind) (program : Program) (at reason : ℕ) → IsRefused kind program at reason → ¬ (HasCertificate kind program)
called kind program at reason refused (table, h) =
    none_and_some _ reason (accepted kind program (note_in table) (by_notes kind program table h) at refused.within) refused.here

same_kind : (k l : Kind) → (k ≡ l) ⊎ (k ≡ l → ⊥)
same_kind Motion Motion = inl refl
same_kind Motion Change = inr (λ e. cc e)
same_kind Change Motion = inr (λ e. cc e)
same_kind Change Change = inl refl

-- none for its own kind, unless an instruction is of the wrong kind
pub own : (kind : Kind) (program : Program) (at reason : ℕ) → IsRefused kind program at reason → reason ≢ 2 → ¬ (HasCertificate program.kind program)
own kind program at reason refused other (table, h) =
    elim (same_kind kind program.kind) [
      | inl e ↦ called kind program at reason refused (subst (λ z. HasCertificate z program) (sym e) (table, h))
      | inr ne ↦ other (other_kind kind program (note_in table) (by_notes program.kind program table h) ne at reason refused)
    ]
