-- The notes of a rejected program, up to the instruction at which the verdict rejects it.
use Rattle.std.proofs.Common.{◌≡◌, ◌≢◌, ◌∙◌, ℕ, zero, suc, ◌<◌, ◌≤◌, ◌+◌, ap, arith, sym, subst, refl, length}
use Rattle.std.proofs.Common.{true, false, Bool, List, Option, Some, None, nat_eq, inl, inr, IfSome}
use Rattle.std.proofs.lemmas.{Bool.{eqb-false, cases_lt}, List.{get_or-map, length-map}}
use Rattle.trlab_code.specs.{declared.program.Kind.Kind, Program.Program}
use Rattle.trlab_notes.specs.Notes.{Note, entry, closure, maybe_closure}
use Rattle.trlab_verify.specs.{declared.note.Note.Note as Form, Verdict.{note_at, IsRefused}}
use Rattle.trlab_verify.specs.{Verdict.reason_number_at, Tables.{HasInputRanges, meaning, meaning_at}}
use Rattle.trlab_verify.specs.Tables.{table_of, form_without_marks, AreFirstNotes, empty_note, note_in}
use Rattle.trlab_verify.{specs.Tables.noted_count, proofs.Inputs.{incoming_shows, closure_shows}}
use Rattle.trlab_verify.proofs.{Reasons.noted, Runs.fetch, Verdicts.{incoming_settled, unreached}}

-- an instruction that is rejected for a reason other than the first has a note
module _ (kind : Kind) (program : Program) (at reason : ℕ) (refused : IsRefused kind program at reason) where
  reached : (o : Option Note) → note_at kind program.instrs at ≡ o → reason ≢ 1 → (n : Note) × (note_at kind program.instrs at ≡ Some n)
  reached None e other =
      let first : reason_number_at kind program at ≡ Some 1 = unreached kind program.kind program.instrs at e in
      let same : Some reason ≡ Some 1 = sym refused.here ∙ first in
      let one : reason ≡ 1 = cc same in
      absurd (other one)
  reached (Some n) e other = (n, e)

  has_note_by : (b : Bool) → nat_eq reason 1 ≡ b → (pc : ℕ) → pc < noted_count at reason → (pc ≤ at) × ((n : Note) × (note_at kind program.instrs pc ≡ Some n))
  has_note_by true e pc lt =
      let less : pc < at = rw e at lt in
      let within = refused.within in
      let (i, ei) = fetch program.instrs pc (omega (arith, less, within)) in
      let (n, en, f) = noted kind program pc i ei (refused.first pc less) in
      (omega (arith, less), (n, en))
  has_note_by false e pc lt =
      let upto : pc < at + 1 = rw e at lt in
      elim (cases_lt pc at) [
        | inl less ↦
            let within = refused.within in
            let (i, ei) = fetch program.instrs pc (omega (arith, less, within)) in
            let (n, en, f) = noted kind program pc i ei (refused.first pc less) in
            (omega (arith, less), (n, en))
        | inr ge ↦
            let here : at ≡ pc = omega (arith, upto, ge) in
            (omega (arith, here), subst (λ z. (n : Note) × (note_at kind program.instrs z ≡ Some n)) here (reached (note_at kind program.instrs at) refl (eqb-false reason 1 e)))
      ]

  pub has_note : (pc : ℕ) → pc < noted_count at reason → (pc ≤ at) × ((n : Note) × (note_at kind program.instrs pc ≡ Some n))
  has_note pc lt = has_note_by (nat_eq reason 1) refl pc lt

  -- the note that is stored for it, and its ranges of the inputs
  pub stored_note : (stored : ℕ → Option Note) → ((q : ℕ) → q ≤ at → stored q ≡ maybe_closure (note_at kind program.instrs q))
      → (pc : ℕ) → pc < noted_count at reason → (n : Note) × (stored pc ≡ Some n) × HasInputRanges kind n
  stored_note stored h pc lt =
      let (le, there) = has_note pc lt in
      let (n, en) = there in
      (closure n, h pc le ∙ ap maybe_closure en, closure_shows kind n (subst (λ z. IfSome z (HasInputRanges kind)) en (incoming_shows kind program.instrs pc pc)))

  -- the notes that are returned are the first ones
  pub first_notes : (stored : ℕ → Option Note) (notes : List Form) → ((q : ℕ) → q ≤ at → stored q ≡ maybe_closure (note_at kind program.instrs q))
      → length notes ≡ noted_count at reason → (0 < noted_count at reason → meaning_at kind notes 0 ≡ entry kind)
      → ((pc : ℕ) → 0 < pc → pc < noted_count at reason → stored pc ≡ Some (meaning_at kind notes pc))
      → AreFirstNotes kind program (noted_count at reason) (table_of kind notes)
  first_notes stored notes h len first later = record { one_each = length-map notes (meaning kind) ∙ len; each = each }
    where
      listed : (pc : ℕ) → pc < noted_count at reason → meaning_at kind notes pc ≡ note_in (table_of kind notes) pc
      listed pc lt = sym (get_or-map (meaning kind) notes pc form_without_marks empty_note (subst (λ n. pc < n) (sym len) lt))

      each : (pc : ℕ) → pc < noted_count at reason → note_at kind program.instrs pc ≡ Some (note_in (table_of kind notes) pc)
      each zero lt = ap Some (sym (first lt) ∙ listed zero lt)
      each (suc q) lt = sym (incoming_settled kind program.instrs (suc q) (suc q) (omega arith)) ∙ sym (h (suc q) (has_note (suc q) lt).0) ∙ later (suc q) (omega arith) lt ∙ ap Some (listed (suc q) lt)
