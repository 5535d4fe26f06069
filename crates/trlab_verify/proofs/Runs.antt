-- A program without a fault ends for each view and all random words, within its longest path.
use Rattle.std.proofs.Common.{◌≡◌, ℕ, zero, suc, ◌+◌, ◌<◌, ◌≤◌, ◌&&◌, refl, sym, subst, arith, ◌∙◌, inl, inr}
use Rattle.std.proofs.Common.{List, [], ◌∷◌, length, Bool, true, false, Option, Some, None, nat_eq, nat_le}
use Rattle.std.proofs.{Common.{cond, slice_get, eq-eqb, leb-false}, lemmas.Bool.cases_lt}
use Rattle.trlab_code.specs.declared.program.Kind.{Kind, TheVariants.{Motion, Change}}
use Rattle.trlab_code.specs.declared.instruction.Instr.{Instr, TheVariants.{Jump, Go, Cross, Stay}}
use Rattle.trlab_code.specs.declared.instruction.{Register.Register, Input.Input}
use Rattle.trlab_code.specs.declared.instruction.Input.TheVariants.{Speed, Limit, Gap, SideGap, SideBack}
use Rattle.trlab_code.specs.declared.instruction.{Input.TheVariants.{Lane, Headspeed}, Variable.Variable}
use Rattle.trlab_code.specs.{declared.view.View.View, Program.Program, Views.IsViewInRange}
use Rattle.trlab_code.specs.Machine.{Value, Number, update, Effect, Writes, Falls, Jumps, Ends, Sticks}
use Rattle.trlab_code.specs.Machine.{effect, allows, start, Store, seen, register_number, input_number}
use Rattle.trlab_code.specs.Machine.{Answer, At, state_after, execute, step, EndsFrom, IsSafe, Unset}
use Rattle.trlab_code.specs.{Machine.allows_input, Flow.{target, falls, on_target}}
use Rattle.trlab_code.specs.declared.instruction.Variable.TheVariants as variable
use Rattle.trlab_notes.specs.declared.note.AbstractValue.{AbstractValue, TheVariants.Unknown}
use Rattle.trlab_notes.specs.Reasons.{reason_against}
use Rattle.trlab_notes.specs.Notes.{Note, entry, entry_values, entry_level, input_range, join}
use Rattle.trlab_notes.{specs.Transfer.{next_note, jump_note}, proofs.Variables.register_below}
use Rattle.trlab_notes.proofs.Fits.{number_is, Fits, FitsSaid, Ahead, joined_left, joined_right, fits_from}
use Rattle.trlab_notes.proofs.Steps.{Leads, IsClear, clear, leads, not_false, kind_allows}
use Rattle.trlab_verify.specs.Verdict.{Follows, HasPath, IsLongest, add_note, add_notes, if_here}
use Rattle.trlab_verify.specs.Verdict.{next_note_to, jump_note_to, is_target, incoming, note_at, IsAccepted}
use Rattle.trlab_verify.proofs.{Reasons.noted, Ways.{either_left, either_right}}

-- there is an incoming note that fits the values
abbrev pub Covers : Bool → Store → Option Note → Type 0
Covers side s note = (n : Note) × (note ≡ Some n) × Fits side n s

covers_old : (side : Bool) (s : Store) (old new : Option Note) → Covers side s old → Covers side s (add_note old new)
covers_old side s old None h = h
covers_old side s None (Some n) h = absurd (cc h.1)
covers_old side s (Some m) (Some n) h = (join m n, refl, joined_left side m n s (subst (λ z. Fits side z s) (some_is h.0 m h.1) h.2))
  where
    some_is : (a b : Note) → Some b ≡ Some a → a ≡ b
    some_is a b e = cc e

covers_new : (side : Bool) (s : Store) (old : Option Note) (n : Note) → Fits side n s → Covers side s (add_note old (Some n))
covers_new side s None n h = (join n n, refl, joined_right side n n s h)
covers_new side s (Some m) n h = (join m n, refl, joined_right side m n s h)

covers_edges : (side : Bool) (s : Store) (pc : ℕ) (note : Option Note) (i : Option Instr) (q : ℕ) (old : Option Note) →
    Covers side s old → Covers side s (add_notes pc note i q old)
covers_edges side s pc (Some m) (Some i) q old h = covers_old side s (add_note old (next_note_to pc m i q)) (jump_note_to m i q) (covers_old side s old (next_note_to pc m i q) h)
covers_edges side s pc None i q old h = h
covers_edges side s pc (Some m) None q old h = h

module _ (kind : Kind) (code : List Instr) where
  -- an incoming note still fits after further notes have joined it
  later : (side : Bool) (s : Store) (q n k : ℕ) → n ≤ k → Covers side s (incoming kind code n q) →
      Covers side s (incoming kind code k q)
  later side s q n zero le h = let e : n ≡ zero = omega arith in subst (λ z. Covers side s (incoming kind code z q)) e h
  later side s q n (suc k) le h =
      elim (cases_lt k n) [
        | inl lt ↦ let e : n ≡ suc k = omega arith in subst (λ z. Covers side s (incoming kind code z q)) e h
        | inr ge ↦ covers_edges side s k (incoming kind code k k) (slice_get code k) q (incoming kind code k q) (later side s q n k ge h)
      ]

  -- the notes that an instruction sends on are part of the incoming notes of their targets
  fall_covers : (side : Bool) (s : Store) (pc : ℕ) (m : Note) (i : Instr) (next : Note) →
      note_at kind code pc ≡ Some m → slice_get code pc ≡ Some i → next_note m i ≡ Some next → Fits side next s →
      Covers side s (note_at kind code (suc pc))
  fall_covers side s pc m i next em ei ef fits =
      let here : if_here (nat_eq (suc pc) (suc pc)) (next_note m i) ≡ Some next = rw (eq-eqb (suc pc) (suc pc) refl) ef in
      rw (em, ei) (covers_old side s (add_note (incoming kind code pc (suc pc)) (next_note_to pc m i (suc pc))) (jump_note_to m i (suc pc)) (rw here (covers_new side s (incoming kind code pc (suc pc)) next fits)))

  jump_covers : (side : Bool) (s : Store) (pc t : ℕ) (m : Note) (i : Instr) → note_at kind code pc ≡ Some m →
      slice_get code pc ≡ Some i → target i ≡ Some t → pc < t → Fits side (jump_note m i) s →
      Covers side s (note_at kind code t)
  jump_covers side s pc t m i em ei et lt fits =
      let here : if_here (is_target (target i) t) (Some (jump_note m i)) ≡ Some (jump_note m i) = rw (et, eq-eqb t t refl) refl in
      later side s t (suc pc) t lt (rw (em, ei) (rw here (covers_new side s (add_note (incoming kind code pc t) (next_note_to pc m i t)) (jump_note m i) fits)))

pub falls_where : (m : Note) (i : Instr) (next : Note) → next_note m i ≡ Some next → falls i ≡ true
falls_where m (Jump t) next e = absurd (cc e)
falls_where m (Go a) next e = absurd (cc e)
falls_where m Cross next e = absurd (cc e)
falls_where m Stay next e = absurd (cc e)
falls_where m i next e = refl

sees_after : (kind : Kind) (view : View) (s : Store) (d : Register) (v : Value) →
    ((k : Input) → s (variable.Input k) ≡ start kind view (variable.Input k)) → (k : Input) → update s (variable.Register d) v (variable.Input k) ≡ start kind view (variable.Input k)
unfolding update
sees_after kind view s d v sees k =
    let l : register_number d < 8 = register_below d in
    let e : nat_eq (8 + input_number k) (register_number d) ≡ false = grind (arith, l) in rw e (sees k)

pub fetch : (code : List Instr) (pc : ℕ) → pc < length code → (i : Instr) × (slice_get code pc ≡ Some i)
fetch [] pc h = absurd (omega arith)
fetch (i ∷ code) zero h = (i, refl)
fetch (i ∷ code) (suc pc) h = fetch code pc (omega arith)

module _ (kind own : Kind) (code : List Instr) (accepted : IsAccepted kind (record { kind = own; instrs = code })) (view : View) (words : List ℕ) where
  -- the run from pc with the values s ends after the number of steps of some path from pc
  abbrev RunsFrom : ℕ → Store → Type 0
  RunsFrom pc s = (answer : Answer) × (n : ℕ) × EndsFrom kind code view words (At pc s) answer (suc n) × HasPath code pc (suc n)

  abbrev Sees : Store → Type 0
  Sees s = (k : Input) → s (variable.Input k) ≡ start kind view (variable.Input k)

  module _ (pc : ℕ) (m : Note) (i : Instr) (s : Store) (em : note_at kind code pc ≡ Some m) (ei : slice_get code pc ≡ Some i) (sees : Sees s) (c : IsClear kind own (length code) pc m i) (onward : (q : ℕ) → pc < q → q < length code → (s' : Store) → Sees s' → Covers view.side s' (note_at kind code q) → RunsFrom q s') where
    falls_on : (next : Note) → next_note m i ≡ Some next → (suc pc < length code) × Follows code pc (suc pc)
    falls_on next ef =
        let f = falls_where m i next ef in
        let h : (true && nat_le (length code) (suc pc)) ≡ false = rw f at c.follows in
        (leb-false (length code) (suc pc) h, (i, ei, either_left (falls i && nat_eq (suc pc) (suc pc)) (on_target (nat_eq (suc pc)) (target i)) (rw (f, eq-eqb (suc pc) (suc pc) refl) refl)))

    after_effect : (e : Effect) → Leads view.side m i s e →
        (answer : Answer) × (n : ℕ) × EndsFrom kind code view words (state_after pc s e) answer n × HasPath code pc (suc n)
    after_effect (Writes d v) (next, ef, fits) =
        let f = falls_on next ef in
        let r = onward (suc pc) (omega arith) f.0 (update s (variable.Register d) v) (sees_after kind view s d v sees) (fall_covers kind code view.side (update s (variable.Register d) v) pc m i next em ei ef fits) in
        (r.0, suc r.1, r.2, (suc pc, f.1, r.3))
    after_effect Falls (next, ef, fits) =
        let f = falls_on next ef in
        let r = onward (suc pc) (omega arith) f.0 s sees (fall_covers kind code view.side s pc m i next em ei ef fits) in
        (r.0, suc r.1, r.2, (suc pc, f.1, r.3))
    after_effect (Jumps t) (et, fits) =
        let g : pc < t = leb-false t pc (rw et at c.forward) in
        let w : t < length code = leb-false (length code) t (rw et at c.within) in
        let r = onward t g w s sees (jump_covers kind code view.side s pc t m i em ei et g fits) in
        (r.0, suc r.1, r.2, (t, (i, ei, either_right (falls i && nat_eq t (suc pc)) (on_target (nat_eq t) (target i)) (rw (et, eq-eqb t t refl) refl)), r.3))
    after_effect (Ends a) l = (a, zero, refl, (i, ei, l))
    after_effect Sticks l = absurd l

  step_is : (pc : ℕ) (s : Store) (i : Instr) → slice_get code pc ≡ Some i → allows kind i ≡ true →
      step kind code view words pc s ≡ state_after pc s (effect view words s i)
  unfolding step
  step_is pc s i ei ok =
      let h : execute kind view words pc s (Some i) ≡ state_after pc s (effect view words s i) = rw ok refl in
      subst (λ z. execute kind view words pc s z ≡ state_after pc s (effect view words s i)) (sym ei) h

  runs : (fuel pc : ℕ) → length code ≤ pc + fuel → pc < length code → (s : Store) → Sees s →
      Covers view.side s (note_at kind code pc) → RunsFrom pc s
  runs zero pc h lt s sees cov = absurd (omega arith)
  runs (suc fuel) pc h lt s sees (m, em, fits) =
      let f = fetch code pc lt in
      let i = f.0 in
      let (n, en, clean) = noted kind (record { kind = own; instrs = code }) pc i f.1 (accepted pc lt) in
      let none : reason_against kind own (length code) pc m i ≡ None = subst (λ z. reason_against kind own (length code) pc z i ≡ None) (some_note n m (sym en ∙ em)) clean in
      let c = clear kind own (length code) pc m i none in
      let r = after_effect pc m i s em f.1 sees c (λ q g w s' sees' cov'. runs fuel q (omega arith) w s' sees' cov') (effect view words s i) (leads kind own view words (length code) pc m s fits sees i c) in
      let ok : allows kind i ≡ true = kind_allows kind own i (not_false _ c.allowed) in
      (r.0, r.1, subst (λ z. EndsFrom kind code view words z r.0 r.1) (sym (step_is pc s i f.1 ok)) r.2, r.3)
    where
      some_note : (a b : Note) → Some a ≡ Some b → a ≡ b
      some_note a b e = cc e

-- an input of a car's view is in its range
input_fits : (view : View) → IsViewInRange view → (k : Input) → FitsSaid view.side (input_range k) (Number (seen view k))
input_fits view h Speed = (omega arith, omega (arith, h.speed, h.limit))
input_fits view h Limit = (h.some_limit, h.limit)
input_fits view h Gap = (omega arith, h.gap)
input_fits view h SideGap = (omega arith, h.sidegap)
input_fits view h SideBack = (omega arith, h.sideback)
input_fits view h Lane = (omega arith, h.lane)
input_fits view h Headspeed = (omega arith, omega (arith, h.headspeed, h.limit))

allowed_fits : (side b : Bool) (values : AbstractValue) (n : ℕ) → FitsSaid side values (Number n) → FitsSaid side (cond b values Unknown) (cond b (Number n) Unset)
allowed_fits side true values n f = f
allowed_fits side false values n f = tt

variable_fits : (kind : Kind) (view : View) → IsViewInRange view → (x : Variable) → FitsSaid view.side (entry_values kind x) (start kind view x)
unfolding start
variable_fits kind view h (variable.Register r) = tt
variable_fits kind view h (variable.Input k) = allowed_fits view.side (allows_input kind k) (input_range k) (seen view k) (input_fits view h k)

-- a number that is at most the limit
at_limit : (v limit m n : ℕ) → v ≤ limit → Number v ≡ Number m → Number limit ≡ Number n → Ahead 1 m n
at_limit v limit m n h vx vy = let e = number_is v m vx in let f = number_is limit n vy in λ _. omega (arith, e, f, h)

-- the speed and the speed of the car ahead are at most the limit
level_fits : (kind : Kind) (view : View) → IsViewInRange view → (x y : Variable) (m n : ℕ) → start kind view x ≡ Number m → start kind view y ≡ Number n →
    Ahead (entry_level x y) m n
unfolding start
level_fits Motion view h (variable.Input Speed) (variable.Input Limit) m n vx vy = at_limit view.speed view.limit m n h.speed vx vy
level_fits Change view h (variable.Input Speed) (variable.Input Limit) m n vx vy = at_limit view.speed view.limit m n h.speed vx vy
level_fits Motion view h (variable.Input Headspeed) (variable.Input Limit) m n vx vy = at_limit view.headspeed view.limit m n h.headspeed vx vy
level_fits Change view h (variable.Input Headspeed) (variable.Input Limit) m n vx vy = at_limit view.headspeed view.limit m n h.headspeed vx vy
level_fits kind view h x y m n vx vy = λ p. omega arith

-- at the start the values fit the entry note
entry_fits : (kind : Kind) (view : View) → IsViewInRange view → Fits view.side (entry kind) (start kind view)
unfolding entry
entry_fits kind view h = fits_from view.side (entry kind) (start kind view) (variable_fits kind view h) (level_fits kind view h) (λ e. absurd (cc e))

-- a path begins inside the code
way_inside : (code : List Instr) (n : ℕ) → HasPath code 0 n → 1 ≤ length code
way_inside [] zero w = absurd w
way_inside [] (suc zero) (i, e, end) = absurd (cc e)
way_inside [] (suc (suc n)) (q, (i, e, follows), rest) = absurd (cc e)
way_inside (i ∷ code) n w = omega arith

-- an accepted program is safe within its longest path
pub sound : (kind : Kind) (program : Program) (budget : ℕ) → IsAccepted kind program →
    IsLongest program.instrs 0 budget → IsSafe kind program.instrs budget
sound kind program budget accepted longest view words legal sixteen =
    let code = program.instrs in
    let some : 1 ≤ length code = way_inside code budget longest.way in
    let r = runs kind program.kind code accepted view words (length code) 0 (omega arith) some (start kind view) (λ k. refl) (entry kind, refl, entry_fits kind view legal) in
    (r.0, suc r.1, longest.most (suc r.1) r.3, r.2)
