-- The notes of an accepted program check.
use Rattle.std.proofs.Common.{◌≡◌, ◌∙◌, ℕ, zero, suc, ◌<◌, ◌≤◌, refl, sym, ap, subst, arith, inl, inr, List}
use Rattle.std.proofs.Common.{length, Bool, true, false, Option, Some, None, nat_eq, nat_le, slice_get}
use Rattle.std.proofs.{Common.{IfSome, map, eq-eqb, eqb-true, leb-false}, lemmas.List.get_or_past}
use Rattle.std.proofs.lemmas.List.FromFn.{get_or-map-range_with_len, length-map-range_with_len}
use Rattle.std.{proofs.lemmas.{Bool.cases_lt, Option.slice_get_within}, specs.List.range_with_len}
use Rattle.trlab_code.specs.{declared.{program.Kind.Kind, instruction.Instr.Instr}, Program.Program}
use Rattle.trlab_code.specs.Flow.{target, on_target}
use Rattle.trlab_notes.specs.{Reasons.reason_against, Notes.{Note, entry, join, IsNoStronger}}
use Rattle.trlab_notes.{specs.Transfer.{next_note, jump_note}, proofs.Order.{same_note, through, join_first}}
use Rattle.trlab_notes.proofs.{Order.{join_second, blank_least}, Steps.{IsClear, both_true, clear}}
use Rattle.trlab_verify.specs.Verdict.{Follows, add_note, add_notes, if_here, next_note_to, jump_note_to}
use Rattle.trlab_verify.specs.Verdict.{is_target, incoming, note_at, IsAccepted}
use Rattle.trlab_verify.specs.Tables.{Checks, ChecksAt, AreVerdictNotes, empty_note, note_in}
use Rattle.trlab_verify.proofs.{Checking.{ChecksBy, as_table}, Reasons.noted as noted_at}
use Rattle.trlab_verify.proofs.{Runs.{falls_where, fetch}, Ways.{either_left, either_right}}

-- a note that may be missing, or another one in that case
abbrev note_or : Note → Option Note → Note
note_or other None = other
note_or other (Some note) = note

-- the notes of the verdict
abbrev pub verdict_note : Kind → Program → ℕ → Note
verdict_note kind program pc = note_or (entry kind) (note_at kind program.instrs pc)

-- there is an incoming note that is no stronger than n
abbrev pub Under : Note → Option Note → Type 0
Under n o = (m : Note) × (o ≡ Some m) × IsNoStronger m n

pub under_old : (n : Note) (old new : Option Note) → Under n old → Under n (add_note old new)
under_old n old None h = h
under_old n None (Some k) h = absurd (cc h.1)
under_old n (Some m) (Some k) h = (join m k, refl, through (join m k) m n (join_first m k) (subst (λ z. IsNoStronger z n) (some_is h.0 m h.1) h.2))
  where
    some_is : (a b : Note) → Some b ≡ Some a → a ≡ b
    some_is a b e = cc e

pub under_new : (n : Note) (old : Option Note) → Under n (add_note old (Some n))
under_new n None = (join n n, refl, join_first n n)
under_new n (Some m) = (join m n, refl, join_second m n)

pub under_edges : (n : Note) (pc : ℕ) (note : Option Note) (i : Option Instr) (q : ℕ) (old : Option Note) → Under n old → Under n (add_notes pc note i q old)
under_edges n pc (Some m) (Some i) q old h = under_old n (add_note old (next_note_to pc m i q)) (jump_note_to m i q) (under_old n old (next_note_to pc m i q) h)
under_edges n pc None i q old h = h
under_edges n pc (Some m) None q old h = h

-- the note that is sent from pc to q
abbrev Sent : List Instr → ℕ → ℕ → Type 0
Sent code n q = (pc : ℕ) × Follows code pc q

on_target_is : (t : Option ℕ) (q : ℕ) → is_target t q ≡ true → on_target (nat_eq q) t ≡ true
on_target_is (Some t) q h = h
on_target_is None q h = absurd (cc h)

module _ (kind : Kind) (program : Program) (accepted : IsAccepted kind program) where
  abbrev code : List Instr
  code = program.instrs

  pub noted : (pc : ℕ) (i : Instr) → slice_get code pc ≡ Some i →
      (m : Note) × (note_at kind code pc ≡ Some m) × (reason_against kind program.kind (length code) pc m i ≡ None)
  noted pc i e = noted_at kind program pc i e (accepted pc (slice_get_within code pc i e))

  stays : (n : Note) (q p k : ℕ) → p ≤ k → Under n (incoming kind code p q) → Under n (incoming kind code k q)
  stays n q p zero le h = let e : p ≡ zero = omega arith in subst (λ z. Under n (incoming kind code z q)) e h
  stays n q p (suc k) le h =
      elim (cases_lt k p) [
        | inl less ↦ let e : p ≡ suc k = omega arith in subst (λ z. Under n (incoming kind code z q)) e h
        | inr ge ↦ under_edges n k (incoming kind code k k) (slice_get code k) q (incoming kind code k q) (stays n q p k ge h)
      ]

  is_under : (n : Note) (q : ℕ) → Under n (note_at kind code q) → IsNoStronger (verdict_note kind program q) n
  is_under n q (m, e, h) = rw e h

  module _ (pc q : ℕ) (m : Note) (i : Instr) (em : note_at kind code pc ≡ Some m) (ei : slice_get code pc ≡ Some i) (c : IsClear kind program.kind (length code) pc m i) where
    abbrev old : Option Note
    old = incoming kind code pc q

    falls_under : (b : Bool) (o : Option Note) → nat_eq q (suc pc) ≡ b → next_note m i ≡ o → IfSome (if_here b o) (IsNoStronger (verdict_note kind program q))
    falls_under false o eb eo = tt
    falls_under true None eb eo = tt
    falls_under true (Some n) eb eo =
        let same : q ≡ suc pc = eqb-true q (suc pc) eb in
        let f : if_here (nat_eq q (suc pc)) (next_note m i) ≡ Some n = rw (eb, eo) refl in
        is_under n q (stays n q (suc pc) q (omega arith) (rw (em, ei) (under_old n (add_note old (next_note_to pc m i q)) (jump_note_to m i q) (rw f (under_new n old)))))

    jumps_under : (b : Bool) → is_target (target i) q ≡ b → IfSome (if_here b (Some (jump_note m i))) (IsNoStronger (verdict_note kind program q))
    jumps_under false eb = tt
    jumps_under true eb =
        let above : pc < q = ahead (target i) c.forward eb in
        is_under (jump_note m i) q (stays (jump_note m i) q (suc pc) q (omega arith) (rw (em, ei) (rw eb (under_new (jump_note m i) (add_note old (next_note_to pc m i q))))))
      where
        ahead : (t : Option ℕ) → on_target (λ t. nat_le t pc) t ≡ false → is_target t q ≡ true → pc < q
        ahead (Some t) f e = let same : q ≡ t = eqb-true q t e in let l : pc < t = leb-false t pc f in omega arith
        ahead None f e = absurd (cc e)

  -- each incoming note of q was sent there
  sent_edges : (k q : ℕ) (note : Option Note) (i : Option Instr) (old : Option Note) (m : Note) → slice_get code k ≡ i →
      add_notes k note i q old ≡ Some m → ((n : Note) → old ≡ Some n → Sent code k q) → Sent code (suc k) q
  sent_edges k q None i old m ei e h = h m e
  sent_edges k q (Some n) None old m ei e h = h m e
  sent_edges k q (Some n) (Some i) (Some o) m ei e h = h o refl
  sent_edges k q (Some n) (Some i) None m ei e h = at (nat_eq q (suc k)) (next_note n i) (is_target (target i) q) refl refl refl e
    where
      at : (b : Bool) (o : Option Note) (d : Bool) → nat_eq q (suc k) ≡ b → next_note n i ≡ o → is_target (target i) q ≡ d →
          add_note (add_note None (if_here b o)) (if_here d (Some (jump_note n i))) ≡ Some m → Sent code (suc k) q
      at true (Some x) d eb eo ed s = (k, (i, ei, either_left _ _ (both_true _ _ (falls_where n i x eo) eb)))
      at b o true eb eo ed s = (k, (i, ei, either_right _ _ (on_target_is (target i) q ed)))
      at true None false eb eo ed s = absurd (cc s)
      at false o false eb eo ed s = absurd (cc s)

  sent : (k q : ℕ) → 0 < q → (m : Note) → incoming kind code k q ≡ Some m → Sent code k q
  sent zero q lt m e = absurd (none (nat_eq q 0) refl e)
    where
      none : (b : Bool) → nat_eq q 0 ≡ b → if_here b (Some (entry kind)) ≡ Some m → ⊥
      none true eb s = let z : q ≡ 0 = eqb-true q 0 eb in omega arith
      none false eb s = cc s
  sent (suc k) q lt m e = sent_edges k q (incoming kind code k k) (slice_get code k) (incoming kind code k q) m refl e (λ n s. sent k q lt n s)

  each : (pc : ℕ) (i : Instr) → slice_get code pc ≡ Some i → ChecksAt kind program (verdict_note kind program) pc i
  each pc i ei =
      let (m, em, h) = noted pc i ei in
      let c = clear kind program.kind (length code) pc m i h in
      let e : m ≡ verdict_note kind program pc = sym (ap (note_or (entry kind)) em) in
      record {
        reached = λ above. sent pc pc above m em;
        clear = subst (λ z. reason_against kind program.kind (length code) pc z i ≡ None) e h;
        falls = λ lt. subst (λ z. IfSome (next_note z i) (IsNoStronger (verdict_note kind program (suc pc)))) e (falls_under pc (suc pc) m i em ei c true (next_note m i) (eq-eqb (suc pc) (suc pc) refl) refl);
        jumps = λ t et lt. subst (λ z. IsNoStronger (verdict_note kind program t) (jump_note z i)) e (jumps_under pc t m i em ei c true (rw (et, eq-eqb t t refl) refl));
      }

  pub checks : ChecksBy kind program (verdict_note kind program)
  checks = record { first = same_note (entry kind); each = each }

  -- the table of the verdict's notes checks
  pub verdict_notes_check : (table : List Note) → AreVerdictNotes kind program table → Checks kind program table
  verdict_notes_check table j = as_table kind program table (verdict_note kind program) same j.one_each first checks
    where
      same : (pc : ℕ) → pc < length code → verdict_note kind program pc ≡ note_in table pc
      same pc lt = ap (note_or (entry kind)) (j.each pc lt)

      first : IsNoStronger (note_in table 0) (entry kind)
      first =
          elim (cases_lt 0 (length code)) [
            | inl some ↦ subst (λ z. IsNoStronger z (entry kind)) (same 0 some) checks.first
            | inr none ↦ subst (λ z. IsNoStronger z (entry kind)) (sym (get_or_past table 0 empty_note (omega (arith, none, j.one_each)))) (blank_least (entry kind))
          ]

  -- there is such a table
  abbrev verdict_table : List Note
  verdict_table = map (verdict_note kind program) (range_with_len 0 (length code))

  verdict_notes : AreVerdictNotes kind program verdict_table
  verdict_notes = record {
    one_each = length-map-range_with_len (verdict_note kind program) 0 (length code);
    each = λ pc lt.
        let (i, e) = fetch code pc lt in
        let (m, em, h) = noted pc i e in
        let listed : note_in verdict_table pc ≡ verdict_note kind program pc = get_or-map-range_with_len (verdict_note kind program) 0 (length code) pc pc empty_note lt (omega arith) in
        em ∙ ap Some (sym (ap (note_or (entry kind)) em) ∙ sym listed);
  }

  pub table_checks : (table : List Note) × AreVerdictNotes kind program table × Checks kind program table
  table_checks = (verdict_table, verdict_notes, verdict_notes_check verdict_table verdict_notes)
