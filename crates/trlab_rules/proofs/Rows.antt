-- Runs of programs that are known instruction by instruction.
use Rattle.std.proofs.Common.{◌≡◌, ℕ, suc, ◌+◌, ◌-◌, ◌<◌, ◌≤◌, ◌^◌, min, refl, sym, ap, subst, ◌∙◌, List}
use Rattle.std.proofs.Common.{Bool, true, false, ◌&&◌, not, nat_le, cond, Some, slice_get, slice_index}
use Rattle.std.proofs.Common.{lt-ltb, le-leb}
use Rattle.trlab_words.specs.Words.{happens_on}
use Rattle.trlab_code.specs.declared.program.Kind.{Kind, TheVariants.{Motion, Change}}
use Rattle.trlab_code.specs.declared.instruction.{Register.Register, Input.Input, Instr.Instr}
use Rattle.trlab_code.specs.declared.instruction.Instr.TheVariants.{Num, Get, Side, Draw, Add, Sub, Min, Jump}
use Rattle.trlab_code.specs.declared.instruction.Instr.TheVariants.{JumpAtMost, JumpFalse, Go, Cross, Stay}
use Rattle.trlab_code.specs.{declared.view.View.View, Machine.{Value, Number, Flag, Store, Answer, Goes}}
use Rattle.trlab_code.specs.Machine.{Crosses, Stays, MachineState, At, Done, Stuck, update, on_any, on_number}
use Rattle.trlab_code.specs.Machine.{on_flag, write_u32, jump_if, Writes, Ends, Sticks, effect, allows}
use Rattle.trlab_code.specs.Machine.{allows_input, state_after, execute, step, EndsFrom}
use Rattle.trlab_code.specs.declared.instruction.Variable.TheVariants as variable

-- from a state a program comes to an end with this answer
pub record Run (kind : Kind) (code : List Instr) (view : View) (words : List ℕ) (state : MachineState) (answer : Answer) : Type 0 where
  pub steps : ℕ
  pub ends : EndsFrom kind code view words state answer steps

-- a program that has come to its end
pub done : {kind : Kind} {code : List Instr} {view : View} {words : List ℕ} {answer : Answer} → Run kind code view words (Done answer) answer
done = record { steps = 0; ends = refl }

module _ {kind : Kind} {code : List Instr} {view : View} {words : List ℕ} {pc : ℕ} {s : Store} {answer : Answer} where
  -- the instruction at a place of the code leads to a state, from which the program comes to its end
  pub row : (i : Instr) (next : MachineState) → slice_get code pc ≡ Some i → allows kind i ≡ true → state_after pc s (effect view words s i) ≡ next → Run kind code view words next answer → Run kind code view words (At pc s) answer
  unfolding step
  row i next here allowed leads rest =
      let fetch : execute kind view words pc s (Some i) ≡ next = ap (λ b. cond b (state_after pc s (effect view words s i)) Stuck) allowed ∙ leads in
      let leads_on : step kind code view words pc s ≡ next = ap (λ found. execute kind view words pc s found) here ∙ fetch in
      record { steps = suc rest.steps; ends = subst (λ z. EndsFrom kind code view words z answer rest.steps) (sym leads_on) rest.ends }

  -- one row of the table each
  pub num : (d : Register) (n : ℕ) → slice_get code pc ≡ Some (Num d n) → Run kind code view words (At (suc pc) (update s (variable.Register d) (Number n))) answer → Run kind code view words (At pc s) answer
  num d n here rest = row (Num d n) _ here refl refl rest

  pub get : (d : Register) (k : Input) (n : ℕ) → slice_get code pc ≡ Some (Get d k) → allows_input kind k ≡ true → s (variable.Input k) ≡ Number n → Run kind code view words (At (suc pc) (update s (variable.Register d) (Number n))) answer → Run kind code view words (At pc s) answer
  get d k n here allowed holds rest =
      row (Get d k) _ here allowed (ap (λ v. state_after pc s (on_any v (λ w. Writes d w))) holds) rest

  pub side : (d : Register) → slice_get code pc ≡ Some (Side d) → allows kind (Side d) ≡ true → Run kind code view words (At (suc pc) (update s (variable.Register d) (Flag view.side))) answer → Run kind code view words (At pc s) answer
  side d here allowed rest = row (Side d) _ here allowed refl rest

  pub draw : (d : Register) (k t : ℕ) (h : Bool) → slice_get code pc ≡ Some (Draw d k t) → happens_on t (slice_index words k) ≡ h → Run kind code view words (At (suc pc) (update s (variable.Register d) (Flag h))) answer → Run kind code view words (At pc s) answer
  draw d k t h here happens rest = row (Draw d k t) _ here refl (ap (λ b. At (suc pc) (update s (variable.Register d) (Flag b))) happens) rest

  pub add : (d a b : Register) (m n : ℕ) → slice_get code pc ≡ Some (Add d a b) → s (variable.Register a) ≡ Number m → s (variable.Register b) ≡ Number n → m + n < 2 ^ 32 → Run kind code view words (At (suc pc) (update s (variable.Register d) (Number (m + n)))) answer → Run kind code view words (At pc s) answer
  add d a b m n here first second sized rest =
      let after : Value → Value → MachineState = λ v w. state_after pc s (on_number v (λ x. on_number w (λ y. write_u32 d (x + y)))) in
      row (Add d a b) _ here refl
      (ap (λ v. after v (s (variable.Register b))) first ∙ (ap (λ w. after (Number m) w) second
      ∙ ap (λ t. state_after pc s (cond t (Writes d (Number (m + n))) Sticks)) (lt-ltb (m + n) (2 ^ 32) sized))) rest

  pub sub : (d a b : Register) (m n : ℕ) → slice_get code pc ≡ Some (Sub d a b) → s (variable.Register a) ≡ Number m → s (variable.Register b) ≡ Number n → n ≤ m → Run kind code view words (At (suc pc) (update s (variable.Register d) (Number (m - n)))) answer → Run kind code view words (At pc s) answer
  sub d a b m n here first second less rest =
      let after : Value → Value → MachineState = λ v w. state_after pc s (on_number v (λ x. on_number w (λ y. cond (nat_le y x) (Writes d (Number (x - y))) Sticks))) in
      row (Sub d a b) _ here refl
      (ap (λ v. after v (s (variable.Register b))) first ∙ (ap (λ w. after (Number m) w) second
      ∙ ap (λ t. state_after pc s (cond t (Writes d (Number (m - n))) Sticks)) (le-leb n m less))) rest

  pub smaller : (d a b : Register) (m n : ℕ) → slice_get code pc ≡ Some (Min d a b) → s (variable.Register a) ≡ Number m → s (variable.Register b) ≡ Number n → Run kind code view words (At (suc pc) (update s (variable.Register d) (Number (min m n)))) answer → Run kind code view words (At pc s) answer
  smaller d a b m n here first second rest =
      let after : Value → Value → MachineState = λ v w. state_after pc s (on_number v (λ x. on_number w (λ y. Writes d (Number (min x y))))) in
      row (Min d a b) _ here refl (ap (λ v. after v (s (variable.Register b))) first ∙ ap (λ w. after (Number m) w) second) rest

  pub jump : (t : ℕ) → slice_get code pc ≡ Some (Jump t) → Run kind code view words (At t s) answer → Run kind code view words (At pc s) answer
  jump t here rest = row (Jump t) _ here refl refl rest

  at_most : (a b : Register) (t m n : ℕ) (h : Bool) → slice_get code pc ≡ Some (JumpAtMost a b t) → s (variable.Register a) ≡ Number m → s (variable.Register b) ≡ Number n → nat_le m n ≡ h → Run kind code view words (state_after pc s (jump_if h t)) answer → Run kind code view words (At pc s) answer
  at_most a b t m n h here first second test rest =
      let after : Value → Value → MachineState = λ v w. state_after pc s (on_number v (λ x. on_number w (λ y. jump_if (nat_le x y) t))) in
      row (JumpAtMost a b t) _ here refl
      (ap (λ v. after v (s (variable.Register b))) first ∙ (ap (λ w. after (Number m) w) second ∙ ap (λ z. state_after pc s (jump_if z t)) test)) rest

  -- the first number is at most the second, and the jump is taken
  pub at_most-jumps : (a b : Register) (t m n : ℕ) → slice_get code pc ≡ Some (JumpAtMost a b t) → s (variable.Register a) ≡ Number m → s (variable.Register b) ≡ Number n → nat_le m n ≡ true → Run kind code view words (At t s) answer → Run kind code view words (At pc s) answer
  at_most-jumps a b t m n here first second test rest = at_most a b t m n true here first second test rest

  -- the first number is above the second, and the next instruction follows
  pub at_most-falls : (a b : Register) (t m n : ℕ) → slice_get code pc ≡ Some (JumpAtMost a b t) → s (variable.Register a) ≡ Number m → s (variable.Register b) ≡ Number n → nat_le m n ≡ false → Run kind code view words (At (suc pc) s) answer → Run kind code view words (At pc s) answer
  at_most-falls a b t m n here first second test rest = at_most a b t m n false here first second test rest

  if_false : (a : Register) (t : ℕ) (h : Bool) → slice_get code pc ≡ Some (JumpFalse a t) → s (variable.Register a) ≡ Flag h → Run kind code view words (state_after pc s (jump_if (not h) t)) answer → Run kind code view words (At pc s) answer
  if_false a t h here holds rest = row (JumpFalse a t) _ here refl (ap (λ v. state_after pc s (on_flag v (λ p. jump_if (not p) t))) holds) rest

  -- the flag is false, and the jump is taken
  pub if_false-jumps : (a : Register) (t : ℕ) → slice_get code pc ≡ Some (JumpFalse a t) → s (variable.Register a) ≡ Flag false → Run kind code view words (At t s) answer → Run kind code view words (At pc s) answer
  if_false-jumps a t here holds rest = if_false a t false here holds rest

  -- the flag is true, and the next instruction follows
  pub if_false-falls : (a : Register) (t : ℕ) → slice_get code pc ≡ Some (JumpFalse a t) → s (variable.Register a) ≡ Flag true → Run kind code view words (At (suc pc) s) answer → Run kind code view words (At pc s) answer
  if_false-falls a t here holds rest = if_false a t true here holds rest

-- the ends
module _ {code : List Instr} {view : View} {words : List ℕ} {pc : ℕ} {s : Store} where
  pub go : (a : Register) (m : ℕ) → slice_get code pc ≡ Some (Go a) → s (variable.Register a) ≡ Number m → m ≤ view.gap → m ≤ view.limit → Run Motion code view words (At pc s) (Goes m)
  go a m here holds gap limit =
      let after : Bool → Bool → MachineState = λ p q. state_after pc s (cond (p && q) (Ends (Goes m)) Sticks) in
      row (Go a) _ here refl
      (ap (λ v. state_after pc s (on_number v (λ x. cond (nat_le x view.gap && nat_le x view.limit) (Ends (Goes x)) Sticks))) holds
      ∙ (ap (λ p. after p (nat_le m view.limit)) (le-leb m view.gap gap) ∙ ap (λ q. after true q) (le-leb m view.limit limit))) done

  pub cross : slice_get code pc ≡ Some Cross → view.side ≡ true → Run Change code view words (At pc s) Crosses
  cross here empty = row Cross _ here refl (ap (λ b. state_after pc s (cond b (Ends Crosses) Sticks)) empty) done

  pub stay : slice_get code pc ≡ Some Stay → Run Change code view words (At pc s) Stays
  stay here = row Stay _ here refl refl done
