-- Notes that are given by ranges and a few facts about the order, and a test that decides whether a table of
-- them checks.
use Rattle.std.proofs.Common.{◌≡◌, ℕ, zero, suc, ◌+◌, ◌<◌, ◌≤◌, ◌&&◌, ◌||◌, not, refl, sym, subst, arith, inl}
use Rattle.std.proofs.Common.{inr, List, [], ◌∷◌, length, Bool, true, false, IsTrue, Option, Some, None}
use Rattle.std.proofs.Common.{nat_eq, nat_le, cond, get_or, slice_get, IfSome, leb-true, eqb-true}
use Rattle.std.{proofs.lemmas.Bool.{and_parts, or_cases}, specs.List.list_all}
use Rattle.trlab_code.specs.declared.{program.Kind.Kind, instruction.{Instr.Instr, Register.TheVariants.R0}}
use Rattle.trlab_code.specs.{declared.instruction.Variable.Variable, Machine.register_number}
use Rattle.trlab_code.specs.{Machine.variable_number, Program.Program, Flow.{target, falls, on_target}}
use Rattle.trlab_code.specs.declared.instruction.Variable.TheVariants as variable
use Rattle.trlab_notes.specs.declared.note.AbstractValue.{AbstractValue, TheVariants.{Unknown, Between}}
use Rattle.trlab_notes.specs.declared.{note.AbstractValue.TheVariants.Implies, reasons.Reason.Reason}
use Rattle.trlab_notes.specs.Notes.{Note, same_variable, value_with_side, known_level, entry_values, entry}
use Rattle.trlab_notes.specs.{Notes.{IsNoMorePrecise, IsNoStronger}, Reasons.reason_against}
use Rattle.trlab_notes.{specs.Transfer.{next_note, jump_note}, proofs.Variables.{variables, back, below}}
use Rattle.trlab_notes.proofs.{Variables.same_is, Order.{wider, known_from}}
use Rattle.trlab_verify.{specs.{Verdict.{Follows, IsAccepted}, Tables.ChecksAt}, proofs.Best.accepted}

-- one variable is at most another (level 1), or below it (level 2)
pub record Fact : Type 0 where
  pub one : Variable
  pub other : Variable
  pub level : ℕ

-- a row of such a table: the values of the first registers, facts about the order, and whether the side
-- cell is empty
pub record Known : Type 0 where
  pub values : List AbstractValue
  pub facts : List Fact
  pub side : Bool

abbrev level_by : List Fact → Variable → Variable → ℕ
level_by [] x y = 0
level_by (fact ∷ facts) x y = cond (same_variable x fact.one && same_variable y fact.other) fact.level (level_by facts x y)

abbrev said_by : Kind → List AbstractValue → Variable → AbstractValue
said_by kind values (variable.Register r) = get_or values (register_number r) Unknown
said_by kind values (variable.Input k) = entry_values kind (variable.Input k)

-- the note of a row
abbrev note_of : Kind → Known → Note
note_of kind known = record { values = said_by kind known.values; level = level_by known.facts; side = known.side }

-- the row past the end of a table: nothing is known
abbrev unknown : Known
unknown = record { values = []; facts = []; side = false }

-- the first value is no more precise than the second
abbrev says_no_more : AbstractValue → AbstractValue → Bool
says_no_more Unknown t = true
says_no_more (Between a b) (Between c d) = nat_le a c && nat_le d b
says_no_more (Implies p) (Implies q) = not p || q
says_no_more _ _ = false

implied : (p q : Bool) → (not p || q) ≡ true → IsTrue p → IsTrue q
implied true q h e = h
implied false q h e = absurd (cc e)

no_more : (s t : AbstractValue) → says_no_more s t ≡ true → IsNoMorePrecise s t
no_more Unknown t h = tt
no_more (Between a b) (Between c d) h = let both = and_parts (nat_le a c) (nat_le d b) h in (leb-true a c both.0, leb-true d b both.1)
no_more (Between a b) Unknown h = absurd (cc h)
no_more (Between a b) (Implies q) h = absurd (cc h)
no_more (Implies p) (Implies q) h = implied p q h
no_more (Implies p) Unknown h = absurd (cc h)
no_more (Implies p) (Between c d) h = absurd (cc h)

-- a test that passes for all variables passes for each
in_list : (f : Variable → Bool) (xs : List Variable) (k : ℕ) → k < length xs → list_all f xs ≡ true → f (get_or xs k (variable.Register R0)) ≡ true
in_list f [] k lt h = absurd (omega arith)
in_list f (x ∷ xs) zero lt h = (and_parts (f x) (list_all f xs) h).0
in_list f (x ∷ xs) (suc k) lt h = in_list f xs k (omega arith) (and_parts (f x) (list_all f xs) h).1

of_each : (f : Variable → Bool) → list_all f variables ≡ true → (x : Variable) → f x ≡ true
of_each f h x = subst (λ z. f z ≡ true) (back x) (in_list f variables (variable_number x) (below x) h)

-- a note knows all of these facts
abbrev are_known : Note → List Fact → Bool
are_known n facts = list_all (λ fact. nat_le fact.level (known_level n fact.one fact.other)) facts

-- a fact holds, and so do the others
fact_holds : (n : Note) (fact : Fact) (facts : List Fact) (x y : Variable) (p q : Bool) → same_variable x fact.one ≡ p → same_variable y fact.other ≡ q
    → fact.level ≤ known_level n fact.one fact.other → level_by facts x y ≤ known_level n x y → cond (p && q) fact.level (level_by facts x y) ≤ known_level n x y
fact_holds n fact facts x y true true e f here others =
    subst (λ z. fact.level ≤ known_level n z y) (sym (same_is x fact.one e)) (subst (λ z. fact.level ≤ known_level n fact.one z) (sym (same_is y fact.other f)) here)
fact_holds n fact facts x y true false e f here others = others
fact_holds n fact facts x y false q e f here others = others

facts_hold : (n : Note) (facts : List Fact) → are_known n facts ≡ true → (x y : Variable) → level_by facts x y ≤ known_level n x y
facts_hold n [] h x y = omega arith
facts_hold n (fact ∷ facts) h x y =
    let both = and_parts (nat_le fact.level (known_level n fact.one fact.other)) (are_known n facts) h in
    fact_holds n fact facts x y (same_variable x fact.one) (same_variable y fact.other) refl refl
    (leb-true fact.level (known_level n fact.one fact.other) both.0) (facts_hold n facts both.1 x y)

-- a row is no stronger than a note
abbrev is_no_stronger : Kind → Known → Note → Bool
is_no_stronger kind known n =
    list_all (λ x. says_no_more (value_with_side (note_of kind known) x) (value_with_side n x)) variables
    && (are_known n known.facts && (not known.side || n.side))

no_stronger : (kind : Kind) (known : Known) (n : Note) → is_no_stronger kind known n ≡ true → IsNoStronger (note_of kind known) n
unfolding value_with_side known_level
no_stronger kind known n h =
    let first = and_parts (list_all (λ x. says_no_more (value_with_side (note_of kind known) x) (value_with_side n x)) variables) (are_known n known.facts && (not known.side || n.side)) h in
    let second = and_parts (are_known n known.facts) (not known.side || n.side) first.1 in
    let says : (x : Variable) → IsNoMorePrecise (value_with_side (note_of kind known) x) (value_with_side n x) =
    λ x. no_more (value_with_side (note_of kind known) x) (value_with_side n x) (of_each (λ z. says_no_more (value_with_side (note_of kind known) z) (value_with_side n z)) first.0 x) in
    record {
      values = says;
      order = λ x y. (known_from (said_by kind known.values x) (said_by kind known.values y) (n.values x) (n.values y) (same_variable x y) (level_by known.facts x y) (n.level x y)
          (wider known.side n.side (said_by kind known.values x) (n.values x) (says x)) (wider known.side n.side (said_by kind known.values y) (n.values y) (says y)) (facts_hold n known.facts second.0 x y));
      beside = implied known.side n.side second.1;
    }

-- no reason to reject holds
abbrev none_stands : Option Reason → Bool
none_stands None = true
none_stands (Some reason) = false

no_reason : (o : Option Reason) → none_stands o ≡ true → o ≡ None
no_reason None h = refl
no_reason (Some reason) h = absurd (cc h)

-- the instruction at p, if there is one, leads to q
abbrev leads : Option Instr → ℕ → ℕ → Bool
leads None p q = false
leads (Some i) p q = (falls i && nat_eq q (suc p)) || on_target (nat_eq q) (target i)

-- one of the first n instructions leads to q
abbrev some_leads : List Instr → ℕ → ℕ → Bool
some_leads code zero q = false
some_leads code (suc n) q = leads (slice_get code n) n q || some_leads code n q

follows : (code : List Instr) (n q : ℕ) → some_leads code n q ≡ true → (p : ℕ) × Follows code p q
follows code zero q h = absurd (cc h)
follows code (suc n) q h = elim (or_cases (leads (slice_get code n) n q) (some_leads code n q) h) [
  | inl here ↦ at (slice_get code n) refl here
  | inr earlier ↦ follows code n q earlier
]
  where
    at : (o : Option Instr) → slice_get code n ≡ o → leads o n q ≡ true → (p : ℕ) × Follows code p q
    at None e l = absurd (cc l)
    at (Some i) e l = (n, (i, e, l))

-- a row is no stronger than the note that is sent to it, if there is one
abbrev suits : Kind → Known → Option Note → Bool
suits kind known None = true
suits kind known (Some n) = is_no_stronger kind known n

suited : (kind : Kind) (known : Known) (o : Option Note) → suits kind known o ≡ true → IfSome o (IsNoStronger (note_of kind known))
suited kind known None h = tt
suited kind known (Some n) h = no_stronger kind known n h

module _ (kind : Kind) (program : Program) (table : List Known) where
  abbrev at_pc : ℕ → Known
  at_pc pc = get_or table pc unknown

  abbrev note : ℕ → Note
  note pc = note_of kind (at_pc pc)

  abbrev suits_target : Note → Option ℕ → Bool
  suits_target n None = true
  suits_target n (Some t) = is_no_stronger kind (at_pc t) n

  -- the table checks at pc, if the instruction there is i
  abbrev passes : ℕ → Instr → Bool
  passes pc i =
      (nat_eq pc 0 || some_leads program.instrs pc pc)
      && (none_stands (reason_against kind program.kind (length program.instrs) pc (note pc) i)
      && (suits kind (at_pc (suc pc)) (next_note (note pc) i) && suits_target (jump_note (note pc) i) (target i)))

  -- and at all instructions from pc on
  abbrev all_pass : ℕ → List Instr → Bool
  all_pass pc [] = true
  all_pass pc (i ∷ rest) = passes pc i && all_pass (suc pc) rest

  suited_target : (n : Note) (o : Option ℕ) (t : ℕ) → suits_target n o ≡ true → o ≡ Some t → IsNoStronger (note t) n
  suited_target n None t h e = absurd (cc e)
  suited_target n (Some q) t h e = let same : q ≡ t = cc e in subst (λ z. IsNoStronger (note z) n) same (no_stronger kind (at_pc q) n h)

  passed : (pc : ℕ) (i : Instr) → passes pc i ≡ true → ChecksAt kind program note pc i
  passed pc i h =
      let one = and_parts (nat_eq pc 0 || some_leads program.instrs pc pc) _ h in
      let two = and_parts (none_stands (reason_against kind program.kind (length program.instrs) pc (note pc) i)) _ one.1 in
      let three = and_parts (suits kind (at_pc (suc pc)) (next_note (note pc) i)) (suits_target (jump_note (note pc) i) (target i)) two.1 in
      record {
        reached = λ above. elim (or_cases (nat_eq pc 0) (some_leads program.instrs pc pc) one.0) [
          | inl none ↦ let z : pc ≡ 0 = eqb-true pc 0 none in absurd (omega arith)
          | inr some ↦ follows program.instrs pc pc some
        ];
        clear = no_reason (reason_against kind program.kind (length program.instrs) pc (note pc) i) two.0;
        falls = λ lt. suited kind (at_pc (suc pc)) (next_note (note pc) i) three.0;
        jumps = λ t e lt. suited_target (jump_note (note pc) i) (target i) t three.1 e;
      }

  each_passed : (n : ℕ) (rest : List Instr) → all_pass n rest ≡ true → (k pc : ℕ) (i : Instr) → n + k ≡ pc → slice_get rest k ≡ Some i → ChecksAt kind program note pc i
  each_passed n [] h k pc i e found = absurd (cc found)
  each_passed n (j ∷ rest) h zero pc i e found =
      let same : j ≡ i = cc found in
      let here : n ≡ pc = omega arith in
      subst (λ z. ChecksAt kind program note z i) here (subst (λ z. ChecksAt kind program note n z) same (passed n j (and_parts (passes n j) (all_pass (suc n) rest) h).0))
  each_passed n (j ∷ rest) h (suc k) pc i e found =
      each_passed (suc n) rest (and_parts (passes n j) (all_pass (suc n) rest) h).1 k pc i (omega arith) found

  -- a program with a table that passes is accepted
  pub accepted_by : is_no_stronger kind (at_pc 0) (entry kind) ≡ true → all_pass 0 program.instrs ≡ true → IsAccepted kind program
  accepted_by first all = accepted kind program note (record {
    first = no_stronger kind (at_pc 0) (entry kind) first;
    each = λ pc i found. each_passed 0 program.instrs all pc pc i (omega arith) found;
  })
