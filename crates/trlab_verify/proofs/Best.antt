-- If some table of notes checks, the notes of the verdict are at least as strong, and the program is
-- accepted.
use Rattle.std.proofs.Common.{◌≡◌, ℕ, zero, suc, ◌<◌, ◌≤◌, ◌&&◌, refl, sym, subst, arith, inl, inr, List}
use Rattle.std.proofs.Common.{length, Bool, true, false, Option, Some, None, nat_eq, slice_get, IfSome}
use Rattle.std.proofs.{Common.eqb-true, lemmas.Bool.cases_lt}
use Rattle.trlab_code.specs.declared.{program.Kind.Kind, instruction.Instr.{Instr, TheVariants.{Jump, Go}}}
use Rattle.trlab_code.specs.declared.instruction.{Instr.TheVariants.{Cross, Stay}, Variable.Variable}
use Rattle.trlab_code.specs.{Program.Program, Flow.{target, falls, on_target}}
use Rattle.trlab_notes.specs.Reasons.{some_unset, some_of_wrong_type}
use Rattle.trlab_notes.specs.{Notes.{Note, entry, join, IsNoStronger}, Transfer.{next_note, jump_note}}
use Rattle.trlab_notes.proofs.Order.{Closed, On, through_on, join_most_on}
use Rattle.trlab_notes.proofs.Monotone.{Reaches, BothOn, fall_up, jump_up, clear_up, passes, All_variables}
use Rattle.trlab_notes.proofs.{Monotone.{all_closed, on_all, all_on, reaches_all}, Steps.{IsClear, clear}}
use Rattle.trlab_verify.specs.Verdict.{Follows, add_note, add_notes, if_here, next_note_to, jump_note_to}
use Rattle.trlab_verify.{specs.Verdict.{is_target, incoming, note_at, IsAccepted}, proofs.Checking.ChecksBy}
use Rattle.trlab_verify.{specs.Tables.IsNoStrongerThanVerdictNote, proofs.Accepted.{target_ahead, next_ahead}}
use Rattle.trlab_verify.proofs.{Runs.fetch, Verdicts.tested, Ways.{either_of, both_of}}

module _ (V : Variable → Type 0) (closed : Closed V) where
  -- the incoming note is no weaker than t
  abbrev Keeps : Note → Option Note → Type 0
  Keeps t o = IfSome o (On V t)

  keeps_edge : (t : Note) (old new : Option Note) → Keeps t old → Keeps t new → Keeps t (add_note old new)
  keeps_edge t old None h k = h
  keeps_edge t None (Some n) h k = join_most_on V closed t n n k k
  keeps_edge t (Some m) (Some n) h k = join_most_on V closed t m n h k

  keeps_here : (t : Note) (b : Bool) (old new : Option Note) → BothOn V closed old new → Keeps t (if_here b old) → Keeps t (if_here b new)
  keeps_here t false old new h k = tt
  keeps_here t true None None h k = tt
  keeps_here t true (Some m) (Some n) h k = through_on V closed t m n k h
  keeps_here t true None (Some n) h k = absurd h
  keeps_here t true (Some m) None h k = absurd h

  -- a table that checks at the variables V, up to b
  pub record Below (kind : Kind) (code : List Instr) (note : ℕ → Note) (b : ℕ) : Type 0 where
    pub first : On V (note 0) (entry kind)
    pub ahead : (pc q : ℕ) → Follows code pc q → (pc < q) × (q < length code)
    pub reached : (q : ℕ) → 0 < q → q < length code → (pc : ℕ) × Follows code pc q
    pub sees : (pc : ℕ) (i : Instr) → pc < b → slice_get code pc ≡ Some i → Reaches V closed i
    pub set : (pc : ℕ) (i : Instr) → pc < b → slice_get code pc ≡ Some i → some_unset (note pc) i ≡ false
    pub kinds : (pc : ℕ) (i : Instr) → pc < b → slice_get code pc ≡ Some i → some_of_wrong_type (note pc) i ≡ false
    pub falls : (pc : ℕ) (i : Instr) → pc < b → slice_get code pc ≡ Some i → suc pc < length code → IfSome (next_note (note pc) i) (On V (note (suc pc)))
    pub jumps : (pc t : ℕ) (i : Instr) → pc < b → slice_get code pc ≡ Some i → target i ≡ Some t → t < length code → On V (note t) (jump_note (note pc) i)

  abbrev pub Best : Kind → List Instr → (ℕ → Note) → ℕ → Type 0
  Best kind code note pc = (n : Note) × (note_at kind code pc ≡ Some n) × On V (note pc) n

-- there is an incoming note
abbrev IsThere : Option Note → Type 0
IsThere o = (n : Note) × (o ≡ Some n)

there_old : (old new : Option Note) → IsThere old → IsThere (add_note old new)
there_old old None h = h
there_old (Some m) (Some n) h = (join m n, refl)
there_old None (Some n) h = absurd (cc h.1)

there_new : (old new : Option Note) → IsThere new → IsThere (add_note old new)
there_new None (Some n) h = (join n n, refl)
there_new (Some m) (Some n) h = (join m n, refl)
there_new old None h = absurd (cc h.1)

there_edges : (pc : ℕ) (note : Option Note) (i : Option Instr) (q : ℕ) (old : Option Note) → IsThere old → IsThere (add_notes pc note i q old)
there_edges pc (Some m) (Some i) q old h = there_old (add_note old (next_note_to pc m i q)) (jump_note_to m i q) (there_old old (next_note_to pc m i q) h)
there_edges pc None i q old h = h
there_edges pc (Some m) None q old h = h

falling : (m : Note) (i : Instr) → falls i ≡ true → IsThere (next_note m i)
falling m (Jump t) h = absurd (cc h)
falling m (Go a) h = absurd (cc h)
falling m Cross h = absurd (cc h)
falling m Stay h = absurd (cc h)
falling m i h = (_, refl)

there_if : (b : Bool) (o : Option Note) → b ≡ true → IsThere o → IsThere (if_here b o)
there_if true o e h = h
there_if false o e h = absurd (cc e)

is_target_on : (t : Option ℕ) (q : ℕ) → on_target (nat_eq q) t ≡ true → is_target t q ≡ true
is_target_on (Some t) q h = h
is_target_on None q h = absurd (cc h)

module _ (V : Variable → Type 0) (closed : Closed V) (kind : Kind) (code : List Instr) (note : ℕ → Note) (b : ℕ) (checks : Below V closed kind code note b) where
  module _ (q : ℕ) (lt : q < length code) (most : q ≤ b) (before : (p : ℕ) → p < q → Best V closed kind code note p) where
    fall_kept : (k : ℕ) (i : Instr) → slice_get code k ≡ Some i → (b : Bool) → nat_eq q (suc k) ≡ b → Keeps V closed (note q) (if_here b (next_note (note k) i))
    fall_kept k i e true eb =
        let same : q ≡ suc k = eqb-true q (suc k) eb in
        subst (λ z. Keeps V closed (note z) (next_note (note k) i)) (sym same) (checks.falls k i (omega arith) e (omega arith))
    fall_kept k i e false eb = tt

    jump_kept : (k : ℕ) (i : Instr) → k < q → slice_get code k ≡ Some i → (o : Option ℕ) → target i ≡ o → (b : Bool) → is_target o q ≡ b →
        Keeps V closed (note q) (if_here b (Some (jump_note (note k) i)))
    jump_kept k i less e (Some t) eo true eb =
        let same : q ≡ t = eqb-true q t eb in
        subst (λ z. Keeps V closed (note z) (Some (jump_note (note k) i))) (sym same) (checks.jumps k t i (omega arith) e eo (omega arith))
    jump_kept k i less e None eo true eb = absurd (cc eb)
    jump_kept k i less e o eo false eb = tt

    -- each edge from earlier instructions keeps the table's note
    keeps : (k : ℕ) → k ≤ q → Keeps V closed (note q) (incoming kind code k q)
    keeps zero le = at_start (nat_eq q 0) refl
      where
        at_start : (b : Bool) → nat_eq q 0 ≡ b → Keeps V closed (note q) (if_here b (Some (entry kind)))
        at_start true e = let z : q ≡ 0 = eqb-true q 0 e in subst (λ x. On V (note x) (entry kind)) (sym z) checks.first
        at_start false e = tt
    keeps (suc k) le =
        let (i, e) = fetch code k (omega arith) in
        let (n, en, f) = before k (omega arith) in
        rw (en, e) (keeps_edge V closed (note q) (add_note (incoming kind code k q) (next_note_to k n i q)) (jump_note_to n i q)
        (keeps_edge V closed (note q) (incoming kind code k q) (next_note_to k n i q) (keeps k (omega arith)) (keeps_here V closed (note q) (nat_eq q (suc k)) (next_note (note k) i) (next_note n i) (fall_up V closed (note k) n f i (checks.sees k i (omega arith) e) (checks.set k i (omega arith) e) (checks.kinds k i (omega arith) e)) (fall_kept k i e (nat_eq q (suc k)) refl)))
        (keeps_here V closed (note q) (is_target (target i) q) (Some (jump_note (note k) i)) (Some (jump_note n i)) (jump_up V closed (note k) n f i) (jump_kept k i (omega arith) e (target i) refl (is_target (target i) q) refl)))

    -- an incoming note remains
    stays : (p k : ℕ) → p ≤ k → IsThere (incoming kind code p q) → IsThere (incoming kind code k q)
    stays p zero le h = let e : p ≡ zero = omega arith in subst (λ z. IsThere (incoming kind code z q)) e h
    stays p (suc k) le h =
        elim (cases_lt k p) [
          | inl less ↦ let e : p ≡ suc k = omega arith in subst (λ z. IsThere (incoming kind code z q)) e h
          | inr ge ↦ there_edges k (incoming kind code k k) (slice_get code k) q (incoming kind code k q) (stays p k ge h)
        ]

    comes : (p : ℕ) → Follows code p q → IsThere (incoming kind code (suc p) q)
    comes p (i, e, h) =
        let (less, _) = checks.ahead p q (i, e, h) in
        let (n, en, f) = before p less in
        let old = incoming kind code p q in
        rw (en, e) (elim (either_of (falls i && nat_eq q (suc p)) (on_target (nat_eq q) (target i)) h) [
          | inl next ↦ let g = both_of (falls i) (nat_eq q (suc p)) next in there_old (add_note old (next_note_to p n i q)) (jump_note_to n i q) (there_new old (next_note_to p n i q) (there_if (nat_eq q (suc p)) (next_note n i) g.1 (falling n i g.0)))
          | inr jumps ↦ there_new (add_note old (next_note_to p n i q)) (jump_note_to n i q) (there_if (is_target (target i) q) (Some (jump_note n i)) (is_target_on (target i) q jumps) (jump_note n i, refl))
        ])

    arrives : IsThere (note_at kind code q)
    arrives =
        elim (cases_lt 0 q) [
          | inl above ↦ let (p, w) = checks.reached q above lt in stays (suc p) q (omega (arith, (checks.ahead p q w).0)) (comes p w)
          | inr below ↦ let e : q ≡ 0 = omega arith in subst (λ z. IsThere (note_at kind code z)) (sym e) (entry kind, refl)
        ]

    here_best : Best V closed kind code note q
    here_best = let (n, e) = arrives in (n, e, subst (Keeps V closed (note q)) e (keeps q (omega arith)))

  pub all_best : (fuel q : ℕ) → q < fuel → q < length code → q ≤ b → Best V closed kind code note q
  all_best zero q h lt le = absurd (omega arith)
  all_best (suc fuel) q h lt le = here_best q lt le (λ p less. all_best fuel p (omega arith) (omega arith) (omega arith))

if_on : (t : Note) (o : Option Note) → IfSome o (IsNoStronger t) → IfSome o (On All_variables t)
if_on t None h = h
if_on t (Some n) h = on_all t n h

module _ (kind : Kind) (program : Program) (note : ℕ → Note) (checks : ChecksBy kind program note) where
  abbrev code : List Instr
  code = program.instrs

  pub no_fault : (pc : ℕ) (i : Instr) → slice_get code pc ≡ Some i → IsClear kind program.kind (length code) pc (note pc) i
  no_fault pc i e = clear kind program.kind (length code) pc (note pc) i (checks.each pc i e).clear

  -- control only goes forward
  pub ahead : (pc q : ℕ) → Follows code pc q → (pc < q) × (q < length code)
  ahead pc q (i, e, h) =
      let c = no_fault pc i e in
      elim (either_of (falls i && nat_eq q (suc pc)) (on_target (nat_eq q) (target i)) h) [
        | inl next ↦ let f = both_of (falls i) (nat_eq q (suc pc)) next in next_ahead (falls i) (length code) pc q c.follows f.0 f.1
        | inr jumps ↦ target_ahead (target i) (length code) pc q c.forward c.within jumps
      ]

  -- up to any b
  pub below : (b : ℕ) → Below All_variables all_closed kind code note b
  below b = record {
    first = on_all _ _ checks.first;
    ahead = ahead;
    reached = λ q above lt. let (i, e) = fetch code q lt in (checks.each q i e).reached above;
    sees = λ pc i lt e. reaches_all i;
    set = λ pc i lt e. (no_fault pc i e).set;
    kinds = λ pc i lt e. (no_fault pc i e).kinds;
    falls = λ pc i lt e l. if_on (note (suc pc)) (next_note (note pc) i) ((checks.each pc i e).falls l);
    jumps = λ pc t i lt e et l. on_all _ _ ((checks.each pc i e).jumps t et l);
  }

  pub best : (pc : ℕ) → pc < length code → IsNoStrongerThanVerdictNote kind program pc (note pc)
  best pc lt = let (n, e, f) = all_best All_variables all_closed kind code note (length code) (below (length code)) (suc pc) pc (omega arith) lt (omega arith) in (n, e, all_on _ _ f)

  pub accepted : IsAccepted kind program
  accepted pc lt =
      let (i, e) = fetch code pc lt in
      let (n, en, f) = best pc lt in
      tested kind program.kind code pc n i None en e (passes All_variables all_closed kind program.kind (length code) pc n i (clear_up All_variables all_closed (note pc) n (on_all _ _ f) kind program.kind (length code) pc i (no_fault pc i e)))
