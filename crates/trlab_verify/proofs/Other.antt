-- A program with a table that checks is rejected as a program of the other kind only because of its kind.
use Rattle.std.proofs.Common.{◌≡◌, ℕ, suc, ◌<◌, ◌≤◌, refl, cond, ◌∙◌, ap, sym, subst, arith, List, length}
use Rattle.std.proofs.Common.{Bool, true, false, Option, Some, None, slice_get, IfSome, option_map}
use Rattle.trlab_code.specs.declared.program.Kind.{Kind, TheVariants.{Motion, Change}}
use Rattle.trlab_code.specs.declared.instruction.Input.{Input, TheVariants.{Speed, Limit, Gap, SideGap}}
use Rattle.trlab_code.specs.declared.instruction.{Input.TheVariants.{SideBack, Lane, Headspeed}, Instr.Instr}
use Rattle.trlab_code.specs.declared.instruction.{Instr.TheVariants.Get, Variable.Variable}
use Rattle.trlab_code.specs.{Machine.allows_input, Program.Program}
use Rattle.trlab_code.specs.declared.instruction.Variable.TheVariants as variable
use Rattle.trlab_notes.{specs.declared.note.AbstractValue.AbstractValue, proofs.Order.{Closed, On}}
use Rattle.trlab_notes.specs.{declared.reasons.Reason.{Reason, TheVariants.WrongProgram}, Transfer.next_note}
use Rattle.trlab_notes.specs.Notes.{Note, with_side, value_with_side, level_between, known_level}
use Rattle.trlab_notes.specs.Notes.{same_variable, entry, entry_values, entry_level, IsNoMorePrecise}
use Rattle.trlab_notes.specs.{Notes.IsNoStronger, Reasons.{reason_against, reason_number, is_of_kind}}
use Rattle.trlab_notes.proofs.{Monotone.{Reaches, clear_up, passes}, Steps.{IsClear, clear, not_false}}
use Rattle.trlab_verify.specs.Verdict.{note_at, first_reason_at, reason_number_at, IsRefused}
use Rattle.trlab_verify.proofs.{Checking.ChecksBy, Reasons.noted, Runs.fetch}
use Rattle.trlab_verify.proofs.Best.{Below, all_best, no_fault, ahead}

-- the variables that programs of both kinds may read
abbrev Both : Variable → Type 0
Both (variable.Register r) = Unit {0}
Both (variable.Input k) = allows_input Motion k ≡ true

both_closed : Closed Both
both_closed = record { regs = λ r. tt; limit = refl; gap = refl }

-- an instruction that may appear in programs of both kinds reads variables that both may read
reaches : (kind own : Kind) (i : Instr) → (kind ≡ own → ⊥) → is_of_kind kind own i ≡ true → Reaches Both both_closed i
reaches Motion own (Get d Speed) ne h = refl
reaches Motion own (Get d Limit) ne h = refl
reaches Motion own (Get d Gap) ne h = refl
reaches Motion own (Get d Headspeed) ne h = refl
reaches Motion own (Get d SideGap) ne h = absurd (cc h)
reaches Motion own (Get d SideBack) ne h = absurd (cc h)
reaches Motion own (Get d Lane) ne h = absurd (cc h)
reaches Change Motion (Get d Speed) ne h = refl
reaches Change Motion (Get d Limit) ne h = refl
reaches Change Motion (Get d Gap) ne h = refl
reaches Change Motion (Get d Headspeed) ne h = refl
reaches Change Motion (Get d SideGap) ne h = absurd (cc h)
reaches Change Motion (Get d SideBack) ne h = absurd (cc h)
reaches Change Motion (Get d Lane) ne h = absurd (cc h)
reaches Change Change (Get d k) ne h = absurd (ne refl)
reaches kind own i ne h = tt

seen_by : (kind : Kind) (k : Input) → allows_input Motion k ≡ true → allows_input kind k ≡ true
seen_by Motion k h = h
seen_by Change k h = refl

same_entry : (kind own : Kind) (x : Variable) → Both x → entry_values own x ≡ entry_values kind x
same_entry kind own (variable.Register r) h = refl
same_entry kind own (variable.Input k) h = rw (seen_by own k h, seen_by kind k h) refl

entry_on : (kind own : Kind) (m : Note) → IsNoStronger m (entry own) → On Both m (entry kind)
unfolding entry value_with_side known_level
entry_on kind own m f = record {
  values = λ x l. subst (λ z. IsNoMorePrecise (value_with_side m x) (with_side false z)) (same_entry kind own x l) (f.values x);
  order = λ x y l k.
      let level : AbstractValue → AbstractValue → ℕ = λ s t. level_between s t (same_variable x y) (entry_level x y) in
      let own_first : known_level m x y ≤ level (entry_values kind x) (entry_values own y) = subst (λ z. known_level m x y ≤ level z (entry_values own y)) (same_entry kind own x l) (f.order x y) in
      subst (λ z. known_level m x y ≤ level (entry_values kind x) z) (same_entry kind own y k) own_first;
  beside = f.beside;
}

on_both : (m n : Note) → IsNoStronger m n → On Both m n
on_both m n f = record { values = λ x l. f.values x; order = λ x y l k. f.order x y; beside = f.beside }

if_both : (t : Note) (o : Option Note) → IfSome o (IsNoStronger t) → IfSome o (On Both t)
if_both t None h = h
if_both t (Some n) h = on_both t n h

-- if all other reasons fail, the first reason that holds is the kind
kind_first : (b : Bool) (rest : Option Reason) (r : Reason) → cond b (Some WrongProgram) rest ≡ Some r →
    (b ≡ false → cond b (Some WrongProgram) rest ≡ None) → r ≡ WrongProgram
kind_first true rest r h f = sym (some_is WrongProgram r h)
  where
    some_is : (a b : Reason) → Some a ≡ Some b → a ≡ b
    some_is a b e = cc e
kind_first false rest r h f = absurd (cc (f refl, h))

kind_only : (kind own : Kind) (len pc : ℕ) (m : Note) (i : Instr) (r : Reason) → reason_against kind own len pc m i ≡ Some r → IsClear own own len pc m i → r ≡ WrongProgram
kind_only kind own len pc m i r h c =
    kind_first _ _ r h (λ ok. passes Both both_closed kind own len pc m i (record { allowed = ok; set = c.set; kinds = c.kinds; forward = c.forward; within = c.within; follows = c.follows; fits = c.fits; positive = c.positive; gap = c.gap; limit = c.limit; beside = c.beside }))

numbered : (o : Option Reason) (n : ℕ) → option_map reason_number o ≡ Some n → (r : Reason) × (o ≡ Some r) × (reason_number r ≡ n)
numbered None n h = absurd (cc h)
numbered (Some r) n h = (r, refl, some_is (reason_number r) n h)
  where
    some_is : (a b : ℕ) → Some a ≡ Some b → a ≡ b
    some_is a b e = cc e

module _ (kind : Kind) (program : Program) (note : ℕ → Note) (checks : ChecksBy program.kind program note) (ne : kind ≡ program.kind → ⊥) (at reason : ℕ) (refused : IsRefused kind program at reason) where
  abbrev code : List Instr
  code = program.instrs

  stands : (pc : ℕ) (i : Instr) → pc < at → slice_get code pc ≡ Some i → is_of_kind kind program.kind i ≡ true
  stands pc i lt e =
      let (m, em, h) = noted kind program pc i e (refused.first pc lt) in
      not_false _ (clear kind program.kind (length code) pc m i h).allowed

  below : Below Both both_closed kind code note at
  below = record {
    first = entry_on kind program.kind (note 0) checks.first;
    ahead = ahead program.kind program note checks;
    reached = λ q above lt. let (i, e) = fetch code q lt in (checks.each q i e).reached above;
    sees = λ pc i lt e. reaches kind program.kind i ne (stands pc i lt e);
    set = λ pc i lt e. (no_fault program.kind program note checks pc i e).set;
    kinds = λ pc i lt e. (no_fault program.kind program note checks pc i e).kinds;
    falls = λ pc i lt e l. if_both (note (suc pc)) (next_note (note pc) i) ((checks.each pc i e).falls l);
    jumps = λ pc t i lt e et l. on_both _ _ ((checks.each pc i e).jumps t et l);
  }

  pub other_kind : reason ≡ 2
  unfolding reason_number_at
  other_kind =
      let (i, e) = fetch code at refused.within in
      let (n, en, f) = all_best Both both_closed kind code note at below (suc at) at (omega arith) refused.within (omega arith) in
      let least : Option Note → Option Instr → Option ℕ = λ note instr. option_map reason_number (first_reason_at kind program.kind (length code) at note instr) in
      let h : least (Some n) (Some i) ≡ Some reason = subst (λ z. least z (Some i) ≡ Some reason) en (subst (λ z. least (note_at kind code at) z ≡ Some reason) e refused.here) in
      let (r, er, number) = numbered (reason_against kind program.kind (length code) at n i) reason h in
      let only = kind_only kind program.kind (length code) at n i r er (clear_up Both both_closed (note at) n f program.kind program.kind (length code) at i (no_fault program.kind program note checks at i e)) in
      sym number ∙ ap reason_number only
