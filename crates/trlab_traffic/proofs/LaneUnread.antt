-- A program that does not read the lane of its car ends the same on both lanes.
use Rattle.std.proofs.Common.{◌≡◌, ◌&&◌, ◌||◌, ℕ, zero, suc, ◌+◌, ◌*◌, ◌/◌, not, min, max, Bool, true, false}
use Rattle.std.proofs.Common.{cond, Option, Some, None, List, refl, sym, ◌∙◌, ap, subst, All, nat_eq, nat_le}
use Rattle.std.proofs.{Common.{nat_lt, slice_get}, lemmas.Option.{get_or_from_slice_get, slice_get_within}}
use Rattle.trlab_code.specs.declared.{program.Kind.Kind, view.View.View}
use Rattle.trlab_code.specs.declared.instruction.{Input.Input, Instr.{Instr, TheVariants.{Go, Cross, Stay}}}
use Rattle.trlab_code.specs.declared.instruction.Input.TheVariants.{Speed, Limit, Gap, SideGap, SideBack}
use Rattle.trlab_code.specs.declared.instruction.{Input.TheVariants.{Lane, Headspeed}, Register.Register}
use Rattle.trlab_code.specs.declared.instruction.Instr.TheVariants.{Num, Get, Side, Draw, Copy, Add, Sub, Mul}
use Rattle.trlab_code.specs.declared.instruction.Instr.TheVariants.{Div, Min, Max, Not, And, Or, Jump}
use Rattle.trlab_code.specs.declared.instruction.Instr.TheVariants.{JumpLess, JumpAtMost, JumpTrue, JumpFalse}
use Rattle.trlab_code.specs.Machine.{Answer, At, Done, Effect, EndsFrom, EndsWith, Ends, Falls, Flag, Goes}
use Rattle.trlab_code.specs.Machine.{Jumps, MachineState, Sticks, Store, Stuck, Value, Writes, allows, effect}
use Rattle.trlab_code.specs.Machine.{end_if, execute, jump_if, on_any, on_flag, on_number, variable_number}
use Rattle.trlab_code.specs.Machine.{start, state_after, step, update, write_difference, write_u32, Number}
use Rattle.trlab_code.specs.declared.instruction.Variable.TheVariants as variable
use Rattle.trlab_traffic.specs.Invariance.{reads_lane}

-- two stores differ only in the lane
record Alike (s t : Store) : Type 0 where
  registers : (r : Register) → s (variable.Register r) ≡ t (variable.Register r)
  inputs : (d : Register) (k : Input) → reads_lane (Get d k) ≡ false → s (variable.Input k) ≡ t (variable.Input k)

alike_updated : (s t : Store) (d : Register) (v : Value) → Alike s t → Alike (update s (variable.Register d) v) (update t (variable.Register d) v)
unfolding update
alike_updated s t d v alike = record {
  registers = λ r. ap (λ (o : Value). cond (nat_eq (variable_number (variable.Register r)) (variable_number (variable.Register d))) v o) (alike.registers r);
  inputs = λ e k unread. ap (λ (o : Value). cond (nat_eq (variable_number (variable.Input k)) (variable_number (variable.Register d))) v o) (alike.inputs e k unread);
}

SameState : MachineState → MachineState → Type 0
SameState (At p s) (At q t) = (p ≡ q) × Alike s t
SameState (Done a) (Done b) = a ≡ b
SameState Stuck Stuck = Unit {0}
SameState _ _ = ⊥

same_after : (pc : ℕ) (s t : Store) (e : Effect) → Alike s t → SameState (state_after pc s e) (state_after pc t e)
unfolding SameState
same_after pc s t (Writes d v) alike = (refl, alike_updated s t d v alike)
same_after pc s t Falls alike = (refl, alike)
same_after pc s t (Jumps target) alike = (refl, alike)
same_after pc s t (Ends answer) alike = refl
same_after pc s t Sticks alike = tt

same_if : (b : Bool) (x y : MachineState) → SameState x y → SameState (cond b x Stuck) (cond b y Stuck)
unfolding SameState
same_if true x y same = same
same_if false x y same = tt

module _ (kind : Kind) (view : View) (words : List ℕ) (lane : ℕ) where
  abbrev other : View
  other = record view { lane = lane }

  module _ (s t : Store) (alike : Alike s t) where
    one : (f : Value → Effect) (a : Register) → f (s (variable.Register a)) ≡ f (t (variable.Register a))
    one f a = ap f (alike.registers a)

    two : (f : Value → Value → Effect) (a b : Register) → f (s (variable.Register a)) (s (variable.Register b)) ≡ f (t (variable.Register a)) (t (variable.Register b))
    two f a b = ap (λ v. f v (s (variable.Register b))) (alike.registers a) ∙ ap (f (t (variable.Register a))) (alike.registers b)

    same_effect : (instr : Instr) → reads_lane instr ≡ false → effect view words s instr ≡ effect other words t instr
    same_effect (Num d n) unread = refl
    same_effect (Get d k) unread = ap (λ v. on_any v (λ w. Writes d w)) (alike.inputs d k unread)
    same_effect (Side d) unread = refl
    same_effect (Draw d k c) unread = refl
    same_effect (Copy d a) unread = one (λ v. on_any v (λ w. Writes d w)) a
    same_effect (Add d a b) unread = two (λ v w. on_number v (λ m. on_number w (λ n. write_u32 d (m + n)))) a b
    same_effect (Sub d a b) unread = two (λ v w. on_number v (λ m. on_number w (λ n. write_difference d m n))) a b
    same_effect (Mul d a n) unread = one (λ v. on_number v (λ m. write_u32 d (m * n))) a
    same_effect (Div d a n) unread = one (λ v. on_number v (λ m. Writes d (Number (m / n)))) a
    same_effect (Min d a b) unread = two (λ v w. on_number v (λ m. on_number w (λ n. Writes d (Number (min m n))))) a b
    same_effect (Max d a b) unread = two (λ v w. on_number v (λ m. on_number w (λ n. Writes d (Number (max m n))))) a b
    same_effect (Not d a) unread = one (λ v. on_flag v (λ p. Writes d (Flag (not p)))) a
    same_effect (And d a b) unread = two (λ v w. on_flag v (λ p. on_flag w (λ q. Writes d (Flag (p && q))))) a b
    same_effect (Or d a b) unread = two (λ v w. on_flag v (λ p. on_flag w (λ q. Writes d (Flag (p || q))))) a b
    same_effect (Jump c) unread = refl
    same_effect (JumpLess a b c) unread = two (λ v w. on_number v (λ m. on_number w (λ n. jump_if (nat_lt m n) c))) a b
    same_effect (JumpAtMost a b c) unread = two (λ v w. on_number v (λ m. on_number w (λ n. jump_if (nat_le m n) c))) a b
    same_effect (JumpTrue a c) unread = one (λ v. on_flag v (λ p. jump_if p c)) a
    same_effect (JumpFalse a c) unread = one (λ v. on_flag v (λ p. jump_if (not p) c)) a
    same_effect (Go a) unread = one (λ v. on_number v (λ speed. end_if (nat_le speed view.gap && nat_le speed view.limit) (Goes speed))) a
    same_effect Cross unread = refl
    same_effect Stay unread = refl

    same_fetched : (pc : ℕ) (found : Option Instr) → ((instr : Instr) → found ≡ Some instr → reads_lane instr ≡ false) → SameState (execute kind view words pc s found) (execute kind other words pc t found)
    unfolding SameState
    same_fetched pc None unread = tt
    same_fetched pc (Some instr) unread =
        same_if (allows kind instr) (state_after pc s (effect view words s instr)) (state_after pc t (effect other words t instr))
        (subst (λ (e : Effect). SameState (state_after pc s (effect view words s instr)) (state_after pc t e)) (same_effect instr (unread instr refl)) (same_after pc s t (effect view words s instr) alike))

  same_start : Alike (start kind view) (start kind other)
  unfolding start
  same_start = record { registers = λ r. refl; inputs = same_input }
    where
      same_input : (d : Register) (k : Input) → reads_lane (Get d k) ≡ false → start kind view (variable.Input k) ≡ start kind other (variable.Input k)
      same_input d Speed unread = refl
      same_input d Limit unread = refl
      same_input d Gap unread = refl
      same_input d SideGap unread = refl
      same_input d SideBack unread = refl
      same_input d Lane unread = absurd (cc unread)
      same_input d Headspeed unread = refl

  module _ (code : List Instr) (all : All (λ instr. reads_lane instr ≡ false) code) where
    unread_at : (pc : ℕ) (instr : Instr) → slice_get code pc ≡ Some instr → reads_lane instr ≡ false
    unread_at pc instr here = subst (λ (i : Instr). reads_lane i ≡ false) (get_or_from_slice_get code pc instr instr here) (all pc instr (slice_get_within code pc instr here))

    same_step : (pc : ℕ) (s t : Store) → Alike s t → SameState (step kind code view words pc s) (step kind code other words pc t)
    unfolding step
    same_step pc s t alike = same_fetched s t alike pc (slice_get code pc) (unread_at pc)

    same_end : (x y : MachineState) (answer : Answer) (n : ℕ) → SameState x y → EndsFrom kind code view words x answer n → EndsFrom kind code other words y answer n
    unfolding SameState
    same_end (Done a) (Done b) answer zero same ends = sym (ap Done same) ∙ ends
    same_end (Done a) (Done b) answer (suc n) same ends = absurd ends
    same_end (At p s) (At q t) answer zero same ends = absurd (cc ends)
    same_end (At p s) (At q t) answer (suc n) same ends =
        same_end (step kind code view words p s) (step kind code other words q t) answer n
        (subst (λ (k : ℕ). SameState (step kind code view words p s) (step kind code other words k t)) same.0 (same_step p s t same.1)) ends
    same_end Stuck Stuck answer zero same ends = absurd (cc ends)
    same_end Stuck Stuck answer (suc n) same ends = absurd ends
    same_end (At p s) (Done b) answer n same ends = absurd same
    same_end (At p s) Stuck answer n same ends = absurd same
    same_end (Done a) (At q t) answer n same ends = absurd same
    same_end (Done a) Stuck answer n same ends = absurd same
    same_end Stuck (At q t) answer n same ends = absurd same
    same_end Stuck (Done b) answer n same ends = absurd same

-- so a program ends the same on either lane
pub lane_is_not_read : (kind : Kind) (code : List Instr) (view : View) (words : List ℕ) (lane : ℕ) (answer : Answer) (n : ℕ) → All (λ instr. reads_lane instr ≡ false) code
    → EndsWith kind code view words answer n → EndsWith kind code (record view { lane = lane }) words answer n
unfolding SameState
lane_is_not_read kind code view words lane answer n all ends =
    same_end kind view words lane code all (At 0 (start kind view)) (At 0 (start kind (record view { lane = lane }))) answer n (refl, same_start kind view words lane) ends
