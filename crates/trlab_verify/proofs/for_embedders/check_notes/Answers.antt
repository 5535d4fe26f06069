use Rattle.std.proofs.Common.{◌≡◌, ◌∙◌, ℕ, ◌<◌, ◌≤◌, sym, ap, subst, arith, length, false, List, Some, refl}
use Rattle.std.proofs.{Common.{below_more, slice_get}, lemmas.{Bool.both_ways, List.{get_or-map, length-map}}}
use Rattle.std.proofs.lemmas.Option.{slice_get_within}
use Rattle.trlab_code.specs.declared.{program.Kind.Kind, instruction.Instr.Instr}
use Rattle.trlab_notes.specs.Notes.{entry, IsNoStronger}
use Rattle.trlab_verify.specs.{declared.note.Note.Note as Form, Tables.{HasValidLevels, meaning, meaning_at}}
use Rattle.trlab_verify.specs.Tables.{table_of, form_without_marks, Checks, ChecksAt, empty_note, note_in}
use Rattle.trlab_verify.proofs.{Best.accepted, Checking.{as_table, at_same, by_notes}, Runs.sound}
use Rattle.trlab_verify.proofs.{Bounded.checked_two, Forms.{under_settled, under_note}}
use Rattle.trlab_verify.proofs.for_embedders.check_notes.Goals as goal

-- the table is that of the notes that the caller passes
listed : (kind : Kind) (form : List Form) (pc : ℕ) → pc < length form → meaning_at kind form pc ≡ note_in (table_of kind form) pc
listed kind form pc lt = sym (get_or-map (meaning kind) form pc form_without_marks empty_note lt)

abbrev ChecksFor : List Form → Kind → List Instr → Type 0
ChecksFor form kind instrs = Checks kind (record { kind = kind; instrs = instrs }) (table_of kind form)

moved : (form : List Form) (k l : Kind) (is js : List Instr) → k ≡ l → is ≡ js → ChecksFor form k is → ChecksFor form l js
moved form k l is js ek ei h = subst (λ z. ChecksFor form z js) ek (subst (λ z. ChecksFor form k z) ei h)

-- the facts that the tests of the first note and of each instruction establish
whole : (form : List Form) (k : Kind) (is : List Instr) → length form ≡ length is → 0 < length is →
    IsNoStronger (meaning_at k form 0) (entry k) →
    ((pc : ℕ) → pc < length is → (i : Instr) → slice_get is pc ≡ Some i → ChecksAt k (record { kind = k; instrs = is }) (meaning_at k form) pc i) →
    ChecksFor form k is
whole form k is len some first h =
    let same : (pc : ℕ) → pc < length is → meaning_at k form pc ≡ note_in (table_of k form) pc = λ pc lt. listed k form pc (omega (arith, lt, len)) in
    as_table k (record { kind = k; instrs = is }) (table_of k form) (meaning_at k form) same
    (length-map form (meaning k) ∙ len) (subst (λ z. IsNoStronger z (entry k)) (same 0 some) first)
    (record { first = first; each = λ pc i e. h pc (slice_get_within is pc i e) i e })

-- no test fails at a note that the caller passes, if the table checks
each_of : (form : List Form) (k : Kind) (is : List Instr) → ChecksFor form k is → (pc : ℕ) (i : Instr) → slice_get is pc ≡ Some i →
    ChecksAt k (record { kind = k; instrs = is }) (meaning_at k form) pc i
each_of form k is h pc i e =
    at_same k (record { kind = k; instrs = is }) (note_in (table_of k form)) (meaning_at k form)
    (λ pc lt. sym (listed k form pc (omega (arith, lt, h.one_each, length-map form (meaning k))))) pc i e (h.each pc i e)

-- and none of its levels is above 2
levels_of : (form : List Form) (k : Kind) (is : List Instr) → ChecksFor form k is → (pc : ℕ) → pc < length is → HasValidLevels (meaning_at k form pc)
levels_of form k is h pc lt =
    subst HasValidLevels (sym (listed k form pc (omega (arith, lt, h.one_each, length-map form (meaning k)))))
    (checked_two k (record { kind = k; instrs = is }) (note_in (table_of k form)) (by_notes k (record { kind = k; instrs = is }) (table_of k form) h) pc lt)

-- the same for the first note
first_of_all : (form : List Form) (k : Kind) (is : List Instr) → 0 < length is → ChecksFor form k is → IsNoStronger (meaning_at k form 0) (entry k)
first_of_all form k is some h =
    subst (λ z. IsNoStronger z (entry k)) (sym (listed k form 0 (omega (arith, some, h.one_each, length-map form (meaning k))))) h.first

-- a code has a first instruction
some : (is code : List Instr) → is ≡ code → 1 ≤ length code → 0 < length is
some is code e h = subst (λ z. 0 < length z) (sym e) (omega (arith, h))

pub returns-then-table-instrs-clause-exact : goal.returns-then-table-instrs-clause-exact
returns-then-table-instrs-clause-exact c = (
  λ e. absurd (both_ways false refl e),
  λ h. absurd (c.if-table-instrs.true (sym (length-map c.args.table.now (meaning c.args.code.now.kind)) ∙ h.one_each ∙ ap length (sym c.instrs-instrs.ensures.value))),
)

pub returns-then-table-instrs-clause-safe : goal.returns-then-table-instrs-clause-safe
returns-then-table-instrs-clause-safe c = λ e. absurd (both_ways false refl e)

pub returns-then-not-is_within-clause-exact : goal.returns-then-not-is_within-clause-exact
returns-then-not-is_within-clause-exact c = (
  λ e. absurd (both_ways false refl e),
  λ h.
      let own = moved c.args.table.now c.args.code.now.kind c.kind-kind.result c.args.code.now.instrs c.instrs-instrs.result.now (sym c.kind-kind.ensures) (sym c.instrs-instrs.ensures.value) h in
      let above : 0 < length c.instrs-instrs.result.now = some c.instrs-instrs.result.now c.args.code.now.instrs c.instrs-instrs.ensures.value c.instrs-instrs.ensures.program.some in
      let first = first_of_all c.args.table.now c.kind-kind.result c.instrs-instrs.result.now above own in
      absurd (both_ways c.is_within.result c.if-not-is_within.true (c.is_within.ensures.1 (subst (IsNoStronger (meaning_at c.kind-kind.result c.args.table.now 0)) (sym c.entry.ensures) (under_note _ (entry c.kind-kind.result) first)))),
)

pub returns-then-not-is_within-clause-safe : goal.returns-then-not-is_within-clause-safe
returns-then-not-is_within-clause-safe c = λ e. absurd (both_ways false refl e)

pub checks_at-requires-clause-one_each : goal.checks_at-requires-clause-one_each
checks_at-requires-clause-one_each c = c.if-table-instrs.false

pub returns-then-not-checks_at-clause-exact : goal.returns-then-not-checks_at-clause-exact
returns-then-not-checks_at-clause-exact c = (
  λ e. absurd (both_ways false refl e),
  λ h.
      let own = moved c.args.table.now c.args.code.now.kind c.kind-kind.result c.args.code.now.instrs c.instrs-instrs.result.now (sym c.kind-kind.ensures) (sym c.instrs-instrs.ensures.value) h in
      absurd (both_ways c.checks_at.result c.if-not-checks_at.true (c.checks_at.ensures.1 (levels_of c.args.table.now c.kind-kind.result c.instrs-instrs.result.now own c.loop-pc.pc c.loop-pc-test.true, each_of c.args.table.now c.kind-kind.result c.instrs-instrs.result.now own c.loop-pc.pc))),
)

pub returns-then-not-checks_at-clause-safe : goal.returns-then-not-checks_at-clause-safe
returns-then-not-checks_at-clause-safe c = λ e. absurd (both_ways false refl e)

pub loop-pc-preserved : goal.loop-pc-preserved
loop-pc-preserved c = below_more _ _ c.loop-pc.invariant (c.checks_at.ensures.0 c.if-not-checks_at.false).1

-- the table checks if the tests of all notes have passed
passed : (form : List Form) (kind own : Kind) (is code : List Instr) → kind ≡ own → is ≡ code → 1 ≤ length code → length form ≡ length is →
    IsNoStronger (meaning_at kind form 0) (entry kind) →
    ((pc : ℕ) → pc < length is → (i : Instr) → slice_get is pc ≡ Some i → ChecksAt kind (record { kind = kind; instrs = is }) (meaning_at kind form) pc i) →
    ChecksFor form own code
passed form kind own is code ek ei least len f h =
    moved form kind own is code ek ei (whole form kind is len (some is code ei least) f h)

pub returns-clause-exact : goal.returns-clause-exact
returns-clause-exact c = (
  λ e. passed c.args.table.now c.kind-kind.result c.args.code.now.kind c.instrs-instrs.result.now c.args.code.now.instrs c.kind-kind.ensures c.instrs-instrs.ensures.value c.instrs-instrs.ensures.program.some c.if-table-instrs.false (under_settled _ (entry c.kind-kind.result) (subst (IsNoStronger (meaning_at c.kind-kind.result c.args.table.now 0)) c.entry.ensures (c.is_within.ensures.0 c.if-not-is_within.false))) (λ pc lt. c.loop-pc.invariant pc (omega (arith, lt))),
  λ h. refl,
)

pub returns-clause-safe : goal.returns-clause-safe
returns-clause-safe c = λ e budget longest.
    let kind = c.args.code.now.kind in
    let table = table_of kind c.args.table.now in
    let checks : Checks kind c.args.code.now table = (returns-clause-exact c).0 e in
    sound kind c.args.code.now budget (accepted kind c.args.code.now (note_in table) (by_notes kind c.args.code.now table checks)) longest
