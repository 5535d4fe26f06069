-- An instruction without a fault, on values that fit its note, is not stuck, and the new values fit the notes
-- that it sends on.
use Rattle.std.proofs.Common.{◌≡◌, ◌≢◌, ℕ, zero, suc, ◌+◌, ◌-◌, ◌*◌, ◌/◌, ◌<◌, ◌≤◌, ◌&&◌, ◌||◌, not, min, max}
use Rattle.std.proofs.Common.{refl, sym, ap, subst, arith, List, [], ◌∷◌, Bool, true, false, IsTrue, Option}
use Rattle.std.proofs.Common.{Some, None, nat_eq, nat_lt, nat_le, cond, ◌∙◌, le-leb, ltb-true, ltb-false}
use Rattle.std.proofs.{Common.{leb-true, leb-false, mul-le-mul_right, div-le_self}, lemmas.Bool.or_parts}
use Rattle.trlab_code.specs.declared.program.Kind.{Kind, TheVariants.{Motion, Change}}
use Rattle.trlab_code.specs.declared.instruction.{Register.Register, Input.{Input, TheVariants.{Limit, Gap}}}
use Rattle.trlab_code.specs.declared.instruction.Instr.{Instr, TheVariants.{Num, Get, Side, Draw, Copy, Add}}
use Rattle.trlab_code.specs.declared.instruction.Instr.TheVariants.{Sub, Mul, Div, Min, Max, Not, And, Or}
use Rattle.trlab_code.specs.declared.instruction.Instr.TheVariants.{Jump, JumpLess, JumpAtMost, JumpTrue}
use Rattle.trlab_code.specs.declared.instruction.Instr.TheVariants.{JumpFalse, Go, Cross, Stay}
use Rattle.trlab_code.specs.{declared.{instruction.Variable.Variable, view.View.View}, Machine.{Value, Unset}}
use Rattle.trlab_code.specs.Machine.{Number, Flag, Store, seen, update, Effect, Writes, Falls, Jumps, Ends}
use Rattle.trlab_code.specs.Machine.{Sticks, effect, on_number, on_flag, on_any, write_u32, jump_if, allows}
use Rattle.trlab_code.specs.{Machine.{allows_input, start, Goes, Crosses}, Flow.{target, is_end, on_target}}
use Rattle.trlab_code.specs.declared.instruction.Variable.TheVariants as variable
use Rattle.trlab_notes.specs.declared.note.AbstractValue.{AbstractValue, TheVariants.{Unknown, Between}}
use Rattle.trlab_notes.specs.declared.{note.AbstractValue.TheVariants.Implies, reasons.Reason.Reason}
use Rattle.trlab_notes.specs.{Notes.{Note, value_with_side, low, high, implies, known_level}, Transfer.assign}
use Rattle.trlab_notes.specs.Transfer.{sharpen, slacken, least_difference, next_note, jump_note}
use Rattle.trlab_notes.specs.Reasons.{is_of_kind, reason_against, any_register, is_unknown, is_range, is_flag}
use Rattle.trlab_notes.specs.Reasons.{some_unset, some_of_wrong_type, falls_out, may_be_too_large}
use Rattle.trlab_notes.specs.Reasons.{may_be_below_zero, may_be_above, may_be_occupied}
use Rattle.trlab_notes.proofs.Fits.{number_is, Ahead, FitsSaid, Fits, sharper_right, sharper_less, just_right}
use Rattle.trlab_notes.proofs.Fits.{ahead_max, written_fits, told_fits, learnt_fits, trusted_fits, and_left}
use Rattle.trlab_notes.proofs.{Fits.{and_right, either_true}, Growth.div_mono}
use Rattle.trlab_bounds.specs.declared.programs.TheConstants.{MAX_NUMBER}

abbrev none : Variable → ℕ
none y = 0

-- the effect of an instruction leads to values that fit the notes sent on
abbrev pub Leads : Bool → Note → Instr → Store → Effect → Type 0
Leads side m i s (Writes d v) = (next : Note) × (next_note m i ≡ Some next) × Fits side next (update s (variable.Register d) v)
Leads side m i s Falls = (next : Note) × (next_note m i ≡ Some next) × Fits side next s
Leads side m i s (Jumps t) = (target i ≡ Some t) × Fits side (jump_note m i) s
Leads side m i s (Ends a) = IsTrue (is_end i)
Leads side m i s Sticks = ⊥

-- the tests of an instruction that has no fault
pub record IsClear (kind own : Kind) (len pc : ℕ) (m : Note) (i : Instr) : Type 0 where
  pub allowed : not (is_of_kind kind own i) ≡ false
  pub set : some_unset m i ≡ false
  pub kinds : some_of_wrong_type m i ≡ false
  pub forward : on_target (λ t. nat_le t pc) (target i) ≡ false
  pub within : on_target (λ t. nat_le len t) (target i) ≡ false
  pub follows : falls_out len pc i ≡ false
  pub fits : may_be_too_large m i ≡ false
  pub positive : may_be_below_zero m i ≡ false
  pub gap : may_be_above Gap m i ≡ false
  pub limit : may_be_above Limit m i ≡ false
  pub beside : may_be_occupied m i ≡ false

first_none : (b : Bool) (r : Reason) (rest : Option Reason) → cond b (Some r) rest ≡ None → (b ≡ false) × (rest ≡ None)
first_none true r rest h = absurd (cc h)
first_none false r rest h = (refl, h)

pub clear : (kind own : Kind) (len pc : ℕ) (m : Note) (i : Instr) → reason_against kind own len pc m i ≡ None →
    IsClear kind own len pc m i
clear kind own len pc m i h =
    let a2 = first_none _ _ _ h in
    let a3 = first_none _ _ _ a2.1 in
    let a4 = first_none _ _ _ a3.1 in
    let a5 = first_none _ _ _ a4.1 in
    let a6 = first_none _ _ _ a5.1 in
    let a7 = first_none _ _ _ a6.1 in
    let a8 = first_none _ _ _ a7.1 in
    let a9 = first_none _ _ _ a8.1 in
    let a10 = first_none _ _ _ a9.1 in
    let a11 = first_none _ _ _ a10.1 in
    let a12 = first_none _ _ _ a11.1 in
    record { allowed = a2.0; set = a3.0; kinds = a4.0; forward = a5.0; within = a6.0; follows = a7.0; fits = a8.0; positive = a9.0; gap = a10.0; limit = a11.0; beside = a12.0 }

-- an operand that is a number within its range
pub record Operand (m : Note) (s : Store) (a : Variable) : Type 0 where
  pub n : ℕ
  pub value : s a ≡ Number n
  pub least : low (m.values a) ≤ n
  pub most : n ≤ high (m.values a)

number_there : (side : Bool) (t : AbstractValue) (v : Value) → is_unknown t ≡ false → is_flag t ≡ false → FitsSaid side t v →
    (n : ℕ) × (v ≡ Number n) × (low t ≤ n) × (n ≤ high t)
number_there side Unknown v p q f = absurd (cc p)
number_there side (Implies i) v p q f = absurd (cc q)
number_there side (Between lo hi) Unset p q f = absurd f
number_there side (Between lo hi) (Flag b) p q f = absurd f
number_there side (Between lo hi) (Number n) p q f = (n, refl, f.0, f.1)

flag_there : (side : Bool) (t : AbstractValue) (v : Value) → is_unknown t ≡ false → is_range t ≡ false → FitsSaid side t v →
    (b : Bool) × (v ≡ Flag b)
flag_there side Unknown v p q f = absurd (cc p)
flag_there side (Between lo hi) v p q f = absurd (cc q)
flag_there side (Implies i) Unset p q f = absurd f
flag_there side (Implies i) (Number n) p q f = absurd f
flag_there side (Implies i) (Flag b) p q f = (b, refl)

value_there : (side : Bool) (t : AbstractValue) (v : Value) → is_unknown t ≡ false → FitsSaid side t v → v ≢ Unset
value_there side Unknown v p f = absurd (cc p)
value_there side (Between lo hi) Unset p f = absurd f
value_there side (Between lo hi) (Flag b) p f = absurd f
value_there side (Between lo hi) (Number n) p f = λ e. cc e
value_there side (Implies i) Unset p f = absurd f
value_there side (Implies i) (Number n) p f = absurd f
value_there side (Implies i) (Flag b) p f = λ e. cc e

on_number_at : (P : Effect → Type 0) (v : Value) (n : ℕ) (f : ℕ → Effect) → v ≡ Number n → P (f n) → P (on_number v f)
on_number_at P v n f e h = subst (λ w. P (on_number w f)) (sym e) h

on_flag_at : (P : Effect → Type 0) (v : Value) (b : Bool) (f : Bool → Effect) → v ≡ Flag b → P (f b) → P (on_flag v f)
on_flag_at P v b f e h = subst (λ w. P (on_flag w f)) (sym e) h

on_any_at : (P : Effect → Type 0) (v : Value) (f : Value → Effect) → v ≢ Unset → P (f v) → P (on_any v f)
on_any_at P Unset f h p = absurd (h refl)
on_any_at P (Number n) f h p = p
on_any_at P (Flag b) f h p = p

write_sized_at : (P : Effect → Type 0) (d : Register) (n : ℕ) → n ≤ MAX_NUMBER → P (Writes d (Number n)) → P (write_u32 d n)
write_sized_at P d n h p = let e : nat_lt n 4294967296 ≡ true = grind (arith, h) in subst (λ b. P (cond b (Writes d (Number n)) Sticks)) (sym e) p

if_at : (P : Effect → Type 0) (b : Bool) (e f : Effect) → b ≡ true → P e → P (cond b e f)
if_at P b e f h p = subst (λ c. P (cond c e f)) (sym h) p

if_both : (P : Effect → Type 0) (b : Bool) (e f : Effect) → (b ≡ true → P e) → (b ≡ false → P f) → P (cond b e f)
if_both P true e f p q = p refl
if_both P false e f p q = q refl

imp_flag : (side : Bool) (t : AbstractValue) (b : Bool) → FitsSaid side t (Flag b) → IsTrue (implies t) → IsTrue b → IsTrue side
imp_flag side (Implies imp) b f h k = f h k
imp_flag side Unknown b f h k = absurd (cc h)
imp_flag side (Between lo hi) b f h k = absurd (cc h)

pub both_true : (p q : Bool) → p ≡ true → q ≡ true → (p && q) ≡ true
both_true true q e f = f
both_true false q e f = e

at_most : (k m n : ℕ) → 1 ≤ k → Ahead k m n → m ≤ n
at_most k m n h f = let g : m + k ≤ suc n = f h in omega arith

start_gap : (kind : Kind) (view : View) → start kind view (variable.Input Gap) ≡ Number view.gap
unfolding start
start_gap Motion view = refl
start_gap Change view = refl

start_limit : (kind : Kind) (view : View) → start kind view (variable.Input Limit) ≡ Number view.limit
unfolding start
start_limit Motion view = refl
start_limit Change view = refl

-- an instruction that may appear in a program is allowed by the program's kind
pub kind_allows : (kind own : Kind) (i : Instr) → is_of_kind kind own i ≡ true → allows kind i ≡ true
kind_allows kind own i h = and_first (allows kind i) _ h
  where
    and_first : (p q : Bool) → (p && q) ≡ true → p ≡ true
    and_first true q e = refl
    and_first false q e = e

module _ (side : Bool) (m : Note) (s : Store) (fits : Fits side m s) where
  one : (a : Variable) → is_unknown (m.values a) ≡ false → is_flag (m.values a) ≡ false → Operand m s a
  one a p q = let h = number_there side (m.values a) (s a) p q (fits.each a) in record { n = h.0; value = h.1; least = h.2; most = h.3 }

  writes_number : (d : Register) (r lo hi : ℕ) (below above : Variable → ℕ) → lo ≤ r → r ≤ hi →
      ((y : Variable) (n : ℕ) → s y ≡ Number n → Ahead (below y) r n) → ((y : Variable) (n : ℕ) → s y ≡ Number n → Ahead (above y) n r) →
      Fits side (assign m d (Between lo hi) below above) (update s (variable.Register d) (Number r))
  writes_number d r lo hi below above l h to from =
      written_fits side m s fits d (Number r) (Between lo hi) below above (l, h) (λ y k n e ey. subst (λ z. Ahead (below y) z n) (number_is r k e) (to y n ey)) (λ y k n e ey. subst (λ z. Ahead (above y) n z) (number_is r k e) (from y n ey))

  writes_flag : (d : Register) (b imp : Bool) → (IsTrue imp → IsTrue b → IsTrue side) →
      Fits side (assign m d (Implies imp) none none) (update s (variable.Register d) (Flag b))
  writes_flag d b imp h =
      written_fits side m s fits d (Flag b) (Implies imp) none none h (λ y k n e ey p. omega arith) (λ y k n e ey p. omega arith)

  -- a copy of a variable's value, with its abstract value and its known levels
  writes_copy : (d : Register) (a : Variable) → Fits side (assign m d (value_with_side m a) (known_level m a) (λ y. known_level m y a)) (update s (variable.Register d) (s a))
  writes_copy d a =
      written_fits side m s fits d (s a) (value_with_side m a) (known_level m a) (λ y. known_level m y a) (told_fits side m s fits a) (λ y k n e ey. fits.order a y k n e ey) (λ y k n e ey. fits.order y a n k ey e)

  leads_num : (d : Register) (n : ℕ) → Fits side (assign m d (Between n n) none none) (update s (variable.Register d) (Number n))
  leads_num d n = writes_number d n n n none none (omega arith) (omega arith) (λ y k e p. omega arith) (λ y k e p. omega arith)

  leads_add : (d : Register) (a b : Variable) (p : Operand m s a) (q : Operand m s b) →
      Fits side (assign m d (Between (min (low (m.values a) + low (m.values b)) MAX_NUMBER) (high (m.values a) + high (m.values b))) (λ y. max (slacken (known_level m a y) (high (m.values b))) (slacken (known_level m b y) (high (m.values a)))) (λ y. max (sharpen (known_level m y a) (low (m.values b))) (sharpen (known_level m y b) (low (m.values a))))) (update s (variable.Register d) (Number (p.n + q.n)))
  leads_add d a b p q =
      writes_number d (p.n + q.n) _ _ _ _ (omega (arith, p.least, q.least)) (omega (arith, p.most, q.most))
      (λ y n ey. ahead_max (slacken (known_level m a y) (high (m.values b))) (slacken (known_level m b y) (high (m.values a))) (p.n + q.n) n (just_right (known_level m a y) (high (m.values b)) p.n n q.n (fits.order a y p.n n p.value ey) q.most) (subst (λ z. Ahead (slacken (known_level m b y) (high (m.values a))) z n) (omega arith) (just_right (known_level m b y) (high (m.values a)) q.n n p.n (fits.order b y q.n n q.value ey) p.most)))
      (λ y n ey. ahead_max (sharpen (known_level m y a) (low (m.values b))) (sharpen (known_level m y b) (low (m.values a))) n (p.n + q.n) (sharper_right (known_level m y a) (low (m.values b)) n p.n q.n (fits.order y a n p.n ey p.value) q.least) (subst (λ z. Ahead (sharpen (known_level m y b) (low (m.values a))) n z) (omega arith) (sharper_right (known_level m y b) (low (m.values a)) n q.n p.n (fits.order y b n q.n ey q.value) p.least)))

  leads_min : (d : Register) (a b : Variable) (p : Operand m s a) (q : Operand m s b) →
      Fits side (assign m d (Between (min (low (m.values a)) (low (m.values b))) (min (high (m.values a)) (high (m.values b)))) (λ y. max (known_level m a y) (known_level m b y)) (λ y. min (known_level m y a) (known_level m y b))) (update s (variable.Register d) (Number (min p.n q.n)))
  leads_min d a b p q =
      writes_number d (min p.n q.n) _ _ _ _ (omega (arith, p.least, q.least)) (omega (arith, p.most, q.most))
      (λ y n ey. min_below (known_level m a y) (known_level m b y) p.n q.n n (fits.order a y p.n n p.value ey) (fits.order b y q.n n q.value ey))
      (λ y n ey. below_min (known_level m y a) (known_level m y b) p.n q.n n (fits.order y a n p.n ey p.value) (fits.order y b n q.n ey q.value))
    where
      min_below : (j k p q n : ℕ) → Ahead j p n → Ahead k q n → Ahead (max j k) (min p q) n
      min_below j k p q n f g = λ h. grind arith

      below_min : (j k p q n : ℕ) → Ahead j n p → Ahead k n q → Ahead (min j k) n (min p q)
      below_min j k p q n f g = λ h. grind arith

  leads_max : (d : Register) (a b : Variable) (p : Operand m s a) (q : Operand m s b) →
      Fits side (assign m d (Between (max (low (m.values a)) (low (m.values b))) (max (high (m.values a)) (high (m.values b)))) (λ y. min (known_level m a y) (known_level m b y)) (λ y. max (known_level m y a) (known_level m y b))) (update s (variable.Register d) (Number (max p.n q.n)))
  leads_max d a b p q =
      writes_number d (max p.n q.n) _ _ _ _ (omega (arith, p.least, q.least)) (omega (arith, p.most, q.most))
      (λ y n ey. max_below (known_level m a y) (known_level m b y) p.n q.n n (fits.order a y p.n n p.value ey) (fits.order b y q.n n q.value ey))
      (λ y n ey. below_max (known_level m y a) (known_level m y b) p.n q.n n (fits.order y a n p.n ey p.value) (fits.order y b n q.n ey q.value))
    where
      max_below : (j k p q n : ℕ) → Ahead j p n → Ahead k q n → Ahead (min j k) (max p q) n
      max_below j k p q n f g = λ h. grind arith

      below_max : (j k p q n : ℕ) → Ahead j n p → Ahead k n q → Ahead (max j k) n (max p q)
      below_max j k p q n f g = λ h. grind arith

  positive_known : (k : ℕ) → nat_eq k 0 ≡ false → 1 ≤ k
  positive_known zero h = absurd (cc h)
  positive_known (suc k) h = omega arith

  leads_sub : (d : Register) (a b : Variable) (p : Operand m s a) (q : Operand m s b) → q.n ≤ p.n →
      Fits side (assign m d (Between (max (low (m.values a) - high (m.values b)) (least_difference (known_level m b a))) (high (m.values a) - low (m.values b))) (λ y. sharpen (known_level m a y) (low (m.values b))) none) (update s (variable.Register d) (Number (p.n - q.n)))
  leads_sub d a b p q h =
      let k : Ahead (known_level m b a) q.n p.n = fits.order b a q.n p.n q.value p.value in
      writes_number d (p.n - q.n) _ _ _ _ (least p.n q.n (low (m.values a)) (high (m.values b)) (known_level m b a) k p.least q.most) (omega (arith, p.most, q.least))
      (λ y n ey. sharper_less (known_level m a y) (low (m.values b)) p.n n q.n (fits.order a y p.n n p.value ey) q.least h)
      (λ y n ey e. omega arith)
    where
      least : (p q la hb k : ℕ) → Ahead k q p → la ≤ p → q ≤ hb → max (la - hb) (least_difference k) ≤ p - q
      least p q la hb zero f g h = omega arith
      least p q la hb (suc k) f g h = let r : q + suc k ≤ suc p = f (omega arith) in grind arith

  leads_mul : (d : Register) (a : Variable) (n : ℕ) (p : Operand m s a) →
      Fits side (assign m d (Between (min (low (m.values a) * n) MAX_NUMBER) (high (m.values a) * n)) none none) (update s (variable.Register d) (Number (p.n * n)))
  leads_mul d a n p =
      writes_number d (p.n * n) _ _ _ _ (omega (arith, mul-le-mul_right n p.least)) (mul-le-mul_right n p.most) (λ y k e h. omega arith) (λ y k e h. omega arith)

  leads_div : (d : Register) (a : Variable) (n : ℕ) (p : Operand m s a) →
      Fits side (assign m d (Between (low (m.values a) / n) (high (m.values a) / n)) (known_level m a) none) (update s (variable.Register d) (Number (p.n / n)))
  leads_div d a n p =
      writes_number d (p.n / n) _ _ _ _ (div_mono _ _ n p.least) (div_mono _ _ n p.most)
      (λ y k e h. let f : p.n + known_level m a y ≤ suc k = fits.order a y p.n k p.value e h in omega (arith, div-le_self p.n n))
      (λ y k e h. omega arith)

  flag_told : (a : Variable) (b : Bool) → s a ≡ Flag b → IsTrue (implies (value_with_side m a)) → IsTrue b → IsTrue side
  flag_told a b e h k = imp_flag side (value_with_side m a) b (subst (λ w. FitsSaid side (value_with_side m a) w) e (told_fits side m s fits a)) h k

  -- the operands of an instruction without a fault
  two_numbers : (a b : Register) (rest : Bool) → (any_register is_unknown m (a ∷ b ∷ []) || rest) ≡ false →
      (any_register is_flag m (a ∷ b ∷ []) || false) ≡ false → Operand m s (variable.Register a) × Operand m s (variable.Register b)
  two_numbers a b rest h k =
      let h0 = or_parts _ _ h in
      let k0 = or_parts _ _ k in
      let h1 = or_parts _ _ h0.0 in
      let k1 = or_parts _ _ k0.0 in
      (one (variable.Register a) h1.0 k1.0, one (variable.Register b) (or_parts _ _ h1.1).0 (or_parts _ _ k1.1).0)

  one_number : (a : Register) (rest : Bool) → (any_register is_unknown m (a ∷ []) || rest) ≡ false →
      (any_register is_flag m (a ∷ []) || false) ≡ false → Operand m s (variable.Register a)
  one_number a rest h k = one (variable.Register a) (or_parts _ _ (or_parts _ _ h).0).0 (or_parts _ _ (or_parts _ _ k).0).0

  flag_at : (a : Register) → is_unknown (m.values (variable.Register a)) ≡ false → is_range (m.values (variable.Register a)) ≡ false →
      (b : Bool) × (s (variable.Register a) ≡ Flag b)
  flag_at a h k = flag_there side (m.values (variable.Register a)) (s (variable.Register a)) h k (fits.each (variable.Register a))

  one_flag : (a : Register) (rest : Bool) → (any_register is_unknown m (a ∷ []) || rest) ≡ false → any_register is_range m (a ∷ []) ≡ false →
      (b : Bool) × (s (variable.Register a) ≡ Flag b)
  one_flag a rest h k = flag_at a (or_parts _ _ (or_parts _ _ h).0).0 (or_parts _ _ k).0

  two_flags : (a b : Register) (rest : Bool) → (any_register is_unknown m (a ∷ b ∷ []) || rest) ≡ false →
      any_register is_range m (a ∷ b ∷ []) ≡ false → ((p : Bool) × (s (variable.Register a) ≡ Flag p)) × ((p : Bool) × (s (variable.Register b) ≡ Flag p))
  two_flags a b rest h k =
      let h1 = or_parts _ _ (or_parts _ _ h).0 in
      let k1 = or_parts _ _ k in
      (flag_at a h1.0 k1.0, flag_at b (or_parts _ _ h1.1).0 (or_parts _ _ k1.1).0)

-- an input that the kind of program allows is a number
input_set : (kind : Kind) (view : View) (k : Input) → allows_input kind k ≡ true → start kind view (variable.Input k) ≢ Unset
unfolding start
input_set kind view k h = subst (λ b. cond b (Number (seen view k)) Unset ≢ Unset) (sym h) (λ e. cc e)

pub not_false : (b : Bool) → not b ≡ false → b ≡ true
not_false true h = refl
not_false false h = absurd (cc h)

module _ (kind own : Kind) (view : View) (words : List ℕ) (len pc : ℕ) (m : Note) (s : Store) (fits : Fits view.side m s) (sees : (k : Input) → s (variable.Input k) ≡ start kind view (variable.Input k)) where
  -- two numbers that an instruction reads
  read_two : (P : Effect → Type 0) (a b : Variable) (f : ℕ → ℕ → Effect) (p : Operand m s a) (q : Operand m s b) →
      P (f p.n q.n) → P (on_number (s a) (λ j. on_number (s b) (λ k. f j k)))
  read_two P a b f p q h =
      on_number_at P (s a) p.n (λ j. on_number (s b) (λ k. f j k)) p.value (on_number_at P (s b) q.n (f p.n) q.value h)

  read_two_flags : (P : Effect → Type 0) (a b : Variable) (f : Bool → Bool → Effect) (p q : Bool) → s a ≡ Flag p →
      s b ≡ Flag q → P (f p q) → P (on_flag (s a) (λ j. on_flag (s b) (λ k. f j k)))
  read_two_flags P a b f p q ea eb h =
      on_flag_at P (s a) p (λ j. on_flag (s b) (λ k. f j k)) ea (on_flag_at P (s b) q (f p) eb h)

  pub leads : (i : Instr) → IsClear kind own len pc m i → Leads view.side m i s (effect view words s i)
  leads (Num d n) c = (_, refl, leads_num view.side m s fits d n)
  leads (Get d k) c =
      on_any_at (Leads view.side m (Get d k) s) (s (variable.Input k)) (λ v. Writes d v) (λ e. input_set kind view k (kind_allows kind own (Get d k) (not_false _ c.allowed)) (sym (sees k) ∙ e)) (_, refl, writes_copy view.side m s fits d (variable.Input k))
  leads (Copy d a) c =
      on_any_at (Leads view.side m (Copy d a) s) (s (variable.Register a)) (λ v. Writes d v) (value_there view.side (m.values (variable.Register a)) (s (variable.Register a)) (or_parts _ _ c.set).0 (fits.each (variable.Register a))) (_, refl, writes_copy view.side m s fits d (variable.Register a))
  leads (Side d) c = (_, refl, writes_flag view.side m s fits d view.side true (λ p q. q))
  leads (Draw d k t) c = (_, refl, writes_flag view.side m s fits d _ false (λ p q. absurd (cc p)))
  leads (Add d a b) c =
      let o = two_numbers view.side m s fits a b _ c.set c.kinds in
      read_two (Leads view.side m (Add d a b) s) (variable.Register a) (variable.Register b) (λ j k. write_u32 d (j + k)) o.0 o.1 (write_sized_at (Leads view.side m (Add d a b) s) d (o.0.n + o.1.n) (let l : high (m.values (variable.Register a)) + high (m.values (variable.Register b)) ≤ MAX_NUMBER = grind (arith, c.fits) in omega (arith, l, o.0.most, o.1.most)) (_, refl, leads_add view.side m s fits d (variable.Register a) (variable.Register b) o.0 o.1))
  leads (Sub d a b) c =
      let o = two_numbers view.side m s fits a b _ c.set c.kinds in
      let k : 1 ≤ known_level m (variable.Register b) (variable.Register a) = positive_known view.side m s fits _ c.positive in
      let l : o.1.n + known_level m (variable.Register b) (variable.Register a) ≤ suc o.0.n = fits.order (variable.Register b) (variable.Register a) o.1.n o.0.n o.1.value o.0.value k in
      let le : o.1.n ≤ o.0.n = omega arith in
      read_two (Leads view.side m (Sub d a b) s) (variable.Register a) (variable.Register b) (λ j k. cond (nat_le k j) (Writes d (Number (j - k))) Sticks) o.0 o.1 (if_at (Leads view.side m (Sub d a b) s) (nat_le o.1.n o.0.n) (Writes d (Number (o.0.n - o.1.n))) Sticks (le-leb o.1.n o.0.n le) (_, refl, leads_sub view.side m s fits d (variable.Register a) (variable.Register b) o.0 o.1 le))
  leads (Mul d a n) c =
      let o = one_number view.side m s fits a _ c.set c.kinds in
      on_number_at (Leads view.side m (Mul d a n) s) (s (variable.Register a)) o.n (λ j. write_u32 d (j * n)) o.value (write_sized_at (Leads view.side m (Mul d a n) s) d (o.n * n) (let l : high (m.values (variable.Register a)) * n ≤ MAX_NUMBER = grind (arith, c.fits) in omega (arith, l, mul-le-mul_right n o.most)) (_, refl, leads_mul view.side m s fits d (variable.Register a) n o))
  leads (Div d a n) c =
      let o = one_number view.side m s fits a _ c.set c.kinds in
      on_number_at (Leads view.side m (Div d a n) s) (s (variable.Register a)) o.n (λ j. Writes d (Number (j / n))) o.value (_, refl, leads_div view.side m s fits d (variable.Register a) n o)
  leads (Min d a b) c =
      let o = two_numbers view.side m s fits a b _ c.set c.kinds in
      read_two (Leads view.side m (Min d a b) s) (variable.Register a) (variable.Register b) (λ j k. Writes d (Number (min j k))) o.0 o.1 (_, refl, leads_min view.side m s fits d (variable.Register a) (variable.Register b) o.0 o.1)
  leads (Max d a b) c =
      let o = two_numbers view.side m s fits a b _ c.set c.kinds in
      read_two (Leads view.side m (Max d a b) s) (variable.Register a) (variable.Register b) (λ j k. Writes d (Number (max j k))) o.0 o.1 (_, refl, leads_max view.side m s fits d (variable.Register a) (variable.Register b) o.0 o.1)
  leads (Not d a) c =
      let o = one_flag view.side m s fits a _ c.set c.kinds in
      on_flag_at (Leads view.side m (Not d a) s) (s (variable.Register a)) o.0 (λ p. Writes d (Flag (not p))) o.1 (_, refl, writes_flag view.side m s fits d _ false (λ p q. absurd (cc p)))
  leads (And d a b) c =
      let o = two_flags view.side m s fits a b _ c.set c.kinds in
      read_two_flags (Leads view.side m (And d a b) s) (variable.Register a) (variable.Register b) (λ p q. Writes d (Flag (p && q))) o.0.0 o.1.0 o.0.1 o.1.1 (_, refl, writes_flag view.side m s fits d _ _ (λ p q. either_true view.side _ _ (λ h. flag_told view.side m s fits (variable.Register a) o.0.0 o.0.1 h (and_left o.0.0 o.1.0 q)) (λ h. flag_told view.side m s fits (variable.Register b) o.1.0 o.1.1 h (and_right o.0.0 o.1.0 q)) p))
  leads (Or d a b) c =
      let o = two_flags view.side m s fits a b _ c.set c.kinds in
      read_two_flags (Leads view.side m (Or d a b) s) (variable.Register a) (variable.Register b) (λ p q. Writes d (Flag (p || q))) o.0.0 o.1.0 o.0.1 o.1.1 (_, refl, writes_flag view.side m s fits d _ _ (λ p q. either_true view.side _ _ (λ h. flag_told view.side m s fits (variable.Register a) o.0.0 o.0.1 (and_left _ _ p) h) (λ h. flag_told view.side m s fits (variable.Register b) o.1.0 o.1.1 (and_right _ _ p) h) q))
  leads (Jump t) c = (refl, fits)
  leads (JumpLess a b t) c =
      let o = two_numbers view.side m s fits a b _ c.set c.kinds in
      read_two (Leads view.side m (JumpLess a b t) s) (variable.Register a) (variable.Register b) (λ j k. jump_if (nat_lt j k) t) o.0 o.1 (if_both (Leads view.side m (JumpLess a b t) s) (nat_lt o.0.n o.1.n) (Jumps t) Falls
      (λ e. let l : o.0.n < o.1.n = ltb-true o.0.n o.1.n e in (refl, learnt_fits view.side m s (variable.Register a) (variable.Register b) 2 o.0.n o.1.n fits o.0.value o.1.value (omega arith) (λ h. omega arith)))
      (λ e. let l : o.1.n ≤ o.0.n = ltb-false o.0.n o.1.n e in (_, refl, learnt_fits view.side m s (variable.Register b) (variable.Register a) 1 o.1.n o.0.n fits o.1.value o.0.value (omega arith) (λ h. omega arith))))
  leads (JumpAtMost a b t) c =
      let o = two_numbers view.side m s fits a b _ c.set c.kinds in
      read_two (Leads view.side m (JumpAtMost a b t) s) (variable.Register a) (variable.Register b) (λ j k. jump_if (nat_le j k) t) o.0 o.1 (if_both (Leads view.side m (JumpAtMost a b t) s) (nat_le o.0.n o.1.n) (Jumps t) Falls
      (λ e. let l : o.0.n ≤ o.1.n = leb-true o.0.n o.1.n e in (refl, learnt_fits view.side m s (variable.Register a) (variable.Register b) 1 o.0.n o.1.n fits o.0.value o.1.value (omega arith) (λ h. omega arith)))
      (λ e. let l : o.1.n < o.0.n = leb-false o.0.n o.1.n e in (_, refl, learnt_fits view.side m s (variable.Register b) (variable.Register a) 2 o.1.n o.0.n fits o.1.value o.0.value (omega arith) (λ h. omega arith))))
  leads (JumpTrue a t) c =
      let o = one_flag view.side m s fits a _ c.set c.kinds in
      on_flag_at (Leads view.side m (JumpTrue a t) s) (s (variable.Register a)) o.0 (λ p. jump_if p t) o.1 (if_both (Leads view.side m (JumpTrue a t) s) o.0 (Jumps t) Falls
      (λ e. (refl, trusted_fits view.side m s a fits (o.1 ∙ ap Flag e)))
      (λ e. (_, refl, fits)))
  leads (JumpFalse a t) c =
      let o = one_flag view.side m s fits a _ c.set c.kinds in
      on_flag_at (Leads view.side m (JumpFalse a t) s) (s (variable.Register a)) o.0 (λ p. jump_if (not p) t) o.1 (if_both (Leads view.side m (JumpFalse a t) s) (not o.0) (Jumps t) Falls
      (λ e. (refl, fits))
      (λ e. (_, refl, trusted_fits view.side m s a fits (o.1 ∙ ap Flag (not_false o.0 e)))))
  leads (Go a) c =
      let o = one_number view.side m s fits a _ c.set c.kinds in
      let below : (k : Variable) (n : ℕ) → nat_eq (known_level m (variable.Register a) k) 0 ≡ false → s k ≡ Number n → nat_le o.n n ≡ true = λ k n e f. le-leb o.n n (at_most (known_level m (variable.Register a) k) o.n n (positive_known view.side m s fits _ e) (fits.order (variable.Register a) k o.n n o.value f)) in
      on_number_at (Leads view.side m (Go a) s) (s (variable.Register a)) o.n (λ n. cond (nat_le n view.gap && nat_le n view.limit) (Ends (Goes n)) Sticks) o.value (if_at (Leads view.side m (Go a) s) (nat_le o.n view.gap && nat_le o.n view.limit) (Ends (Goes o.n)) Sticks (both_true _ _ (below (variable.Input Gap) view.gap c.gap (sees Gap ∙ start_gap kind view)) (below (variable.Input Limit) view.limit c.limit (sees Limit ∙ start_limit kind view))) refl)
  leads Cross c = if_at (Leads view.side m Cross s) view.side (Ends Crosses) Sticks (fits.beside (not_false m.side c.beside)) refl
  leads Stay c = refl
