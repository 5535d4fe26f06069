use Rattle.std.proofs.Common.{◌≡◌, ◌∙◌, arith, ℕ, zero, suc, ◌<◌, ap, sym, subst, length, true, false, List}
use Rattle.std.proofs.Common.{Option, Some, None, refl, IfSome, MatchOption, is_some}
use Rattle.std.proofs.lemmas.List.{get_or-map, length-map}
use Rattle.trlab_code.specs.declared.{program.Kind.Kind, instruction.Instr.Instr}
use Rattle.trlab_notes.specs.{Notes.{Note, entry, closure, maybe_closure}, Reasons.reason_number}
use Rattle.trlab_verify.specs.declared.{verdict.Rejection.Rejection, note.Note.Note as Form}
use Rattle.trlab_verify.specs.Tables.{AreVerdictNotes, empty_note, note_in, HasInputRanges, meaning}
use Rattle.trlab_verify.specs.Tables.{meaning_at, table_of, form_without_marks}
use Rattle.trlab_verify.{specs.Verdict.{note_at, IsAccepted, IsRefused}, proofs.Verdicts.incoming_settled}
use Rattle.trlab_verify.proofs.{Inputs.{incoming_shows, closure_shows}, Runs.fetch, VerdictChecks.noted}
use Rattle.trlab_verify.proofs.table.judge_notes.Goals as goal

refused_at : (kind : Kind) (code : List Instr) (o : Option Rejection) → true ≡ is_some o →
    MatchOption o (IsAccepted kind (record { kind = kind; instrs = code })) (λ no. IsRefused kind (record { kind = kind; instrs = code }) no.at (reason_number no.reason)) →
    (at : ℕ) × (reason : ℕ) × IsRefused kind (record { kind = kind; instrs = code }) at reason
refused_at kind code None e h = absurd (cc e)
refused_at kind code (Some r) e h = (r.at, reason_number r.reason, h)

accepted_at : (kind : Kind) (code : List Instr) (o : Option Rejection) → false ≡ is_some o →
    MatchOption o (IsAccepted kind (record { kind = kind; instrs = code })) (λ no. IsRefused kind (record { kind = kind; instrs = code }) no.at (reason_number no.reason)) →
    (o ≡ None) × IsAccepted kind (record { kind = kind; instrs = code })
accepted_at kind code None e h = (refl, h)
accepted_at kind code (Some r) e h = absurd (cc e)

-- the notes that are stored, and their ranges of the inputs
note_there : (kind : Kind) (code : List Instr) (stored : ℕ → Option Note) → IsAccepted kind (record { kind = kind; instrs = code }) →
    ((q : ℕ) → q < length code → stored q ≡ maybe_closure (note_at kind code q)) → (pc : ℕ) → pc < length code →
    (n : Note) × (stored pc ≡ Some n) × HasInputRanges kind n
note_there kind code stored accepted h pc lt =
    let (i, e) = fetch code pc lt in
    let (n, en, f) = noted kind (record { kind = kind; instrs = code }) accepted pc i e in
    (closure n, h pc lt ∙ ap maybe_closure en, closure_shows kind n (subst (λ z. IfSome z (HasInputRanges kind)) en (incoming_shows kind code pc pc)))

-- each note that is returned is the verdict's note
each_best : (kind : Kind) (code : List Instr) (stored : ℕ → Option Note) (notes : List Form) →
    ((q : ℕ) → q < length code → stored q ≡ maybe_closure (note_at kind code q)) → length notes ≡ length code →
    (0 < length code → meaning_at kind notes 0 ≡ entry kind) →
    ((pc : ℕ) → 0 < pc → pc < length code → stored pc ≡ Some (meaning_at kind notes pc)) →
    AreVerdictNotes kind (record { kind = kind; instrs = code }) (table_of kind notes)
each_best kind code stored notes h len first later = record { one_each = length-map notes (meaning kind) ∙ len; each = each }
  where
    listed : (pc : ℕ) → pc < length code → meaning_at kind notes pc ≡ note_in (table_of kind notes) pc
    listed pc lt = sym (get_or-map (meaning kind) notes pc form_without_marks empty_note (omega (arith, lt, len)))

    each : (pc : ℕ) → pc < length code → note_at kind code pc ≡ Some (note_in (table_of kind notes) pc)
    each zero lt = ap Some (sym (first lt) ∙ listed zero lt)
    each (suc q) lt = sym (incoming_settled kind code (suc q) (suc q) (omega arith)) ∙ sym (h (suc q) lt) ∙ later (suc q) (omega arith) lt ∙ ap Some (listed (suc q) lt)

pub returns-then-is_some-clause-refused : goal.returns-then-is_some-clause-refused
returns-then-is_some-clause-refused c = refused_at c.args.kind c.args.instrs.now c.judge.result (sym c.if-is_some.true ∙ c.is_some.ensures) c.judge.ensures.verdict

pub write_all-requires : goal.write_all-requires
write_all-requires c = λ pc lt.
    let a = accepted_at c.args.kind c.args.instrs.now c.judge.result (sym c.if-is_some.false ∙ c.is_some.ensures) c.judge.ensures.verdict in
    note_there c.args.kind c.args.instrs.now _ a.1 (c.judge.ensures.stored a.0) pc (omega (arith, lt, c.requires.one_each, c.judge.auto.notes))

pub returns-clause-best : goal.returns-clause-best
returns-clause-best c =
    let a = accepted_at c.args.kind c.args.instrs.now c.judge.result (sym c.if-is_some.false ∙ c.is_some.ensures) c.judge.ensures.verdict in
    let same = c.judge.auto.notes in
    each_best c.args.kind c.args.instrs.now _ c.in_ok-write_all.field-0.items (c.judge.ensures.stored a.0) (omega (arith, c.in_ok-write_all.ensures.one_each, same, c.requires.one_each))
    (λ lt. c.in_ok-write_all.ensures.first (omega (arith, lt, same, c.requires.one_each)))
    (λ pc above lt. c.in_ok-write_all.ensures.later pc above (omega (arith, lt, same, c.requires.one_each)))
