-- When values fit a note: values that fit a note before an instruction fit the notes that it sends on.
use Rattle.std.proofs.Common.{◌≡◌, ℕ, zero, suc, ◌+◌, ◌-◌, ◌≤◌, ◌&&◌, ◌||◌, min, max, refl, sym, ap, subst}
use Rattle.std.proofs.Common.{arith, Bool, true, false, IsTrue, nat_eq, cond, ◌∙◌}
use Rattle.trlab_notes.specs.declared.note.AbstractValue.{AbstractValue, TheVariants.{Unknown, Between}}
use Rattle.trlab_notes.specs.{declared.note.AbstractValue.TheVariants.Implies, Notes.{Note, same_variable}}
use Rattle.trlab_notes.specs.Notes.{with_side, value_with_side, implies, level_between, known_level}
use Rattle.trlab_notes.specs.{Notes.{join_values, join}, Transfer.{assign, sharpen, slacken, chain}}
use Rattle.trlab_notes.{specs.Transfer.{refine_order, refine_flag}, proofs.Variables.same_is}
use Rattle.trlab_code.specs.declared.instruction.{Register.Register, Variable.Variable}
use Rattle.trlab_code.specs.Machine.{Value, Unset, Number, Flag, Store, update, variable_number}
use Rattle.trlab_code.specs.declared.instruction.Variable.TheVariants as variable

-- a level k means that m is at most n if it is 1, and below n if it is 2
abbrev pub Ahead : ℕ → ℕ → ℕ → Type 0
Ahead k m n = 1 ≤ k → m + k ≤ suc n

-- an abstract value fits a value, where `side` states whether the side cell is empty
abbrev pub FitsSaid : Bool → AbstractValue → Value → Type 0
FitsSaid side Unknown v = Unit {0}
FitsSaid side (Between lo hi) (Number n) = (lo ≤ n) × (n ≤ hi)
FitsSaid side (Between lo hi) (Flag b) = ⊥
FitsSaid side (Between lo hi) Unset = ⊥
FitsSaid side (Implies imp) (Flag b) = IsTrue imp → IsTrue b → IsTrue side
FitsSaid side (Implies imp) (Number n) = ⊥
FitsSaid side (Implies imp) Unset = ⊥

-- the note fits the values: each of them, the order of each two numbers, and the side cell
pub record Fits (side : Bool) (note : Note) (s : Store) : Type 0 where
  pub each : (x : Variable) → FitsSaid side (note.values x) (s x)
  pub order : (x y : Variable) (m n : ℕ) → s x ≡ Number m → s y ≡ Number n → Ahead (known_level note x y) m n
  pub beside : IsTrue note.side → IsTrue side

-- the level that follows from the ranges and the stored level is correct
pub known_fits : (side : Bool) (sx sy : AbstractValue) (same : Bool) (level m n : ℕ) → FitsSaid side sx (Number m) →
    FitsSaid side sy (Number n) → Ahead level m n → (same ≡ true → m ≡ n) → Ahead (level_between sx sy same level) m n
known_fits side (Between lx hx) (Between ly hy) true level m n fx fy l e = λ p. let q : m ≡ n = e refl in omega arith
known_fits side (Between lx hx) (Between ly hy) false level m n fx fy l e = λ p. grind arith
known_fits side Unknown sy same level m n fx fy l e = λ p. omega arith
known_fits side (Implies i) sy same level m n fx fy l e = λ p. omega arith
known_fits side (Between lx hx) Unknown same level m n fx fy l e = λ p. omega arith
known_fits side (Between lx hx) (Implies i) same level m n fx fy l e = λ p. omega arith

-- a sharpened level is correct after one side has decreased, or the other increased
pub sharper_right : (k lo m n r : ℕ) → Ahead k m n → lo ≤ r → Ahead (sharpen k lo) m (n + r)
sharper_right zero lo m n r h l = λ p. omega arith
sharper_right (suc k) zero m n r h l = λ p. grind arith
sharper_right (suc k) (suc lo) m n r h l = λ p. grind arith

pub sharper_less : (k lo m n r : ℕ) → Ahead k m n → lo ≤ r → r ≤ m → Ahead (sharpen k lo) (m - r) n
sharper_less zero lo m n r h l q = λ p. omega arith
sharper_less (suc k) zero m n r h l q = λ p. grind arith
sharper_less (suc k) (suc lo) m n r h l q = λ p. grind arith

pub just_right : (k hi m n r : ℕ) → Ahead k m n → r ≤ hi → Ahead (slacken k hi) (m + r) n
just_right k hi m n r h l = λ p. grind arith

pub ahead_max : (j k m n : ℕ) → Ahead j m n → Ahead k m n → Ahead (max j k) m n
ahead_max j k m n a b = λ p. grind arith

pub ahead_min_left : (j k m n : ℕ) → Ahead j m n → Ahead (min j k) m n
ahead_min_left j k m n a = λ p. grind arith

pub chained_right : (i k j w x y z : ℕ) → Ahead i w x → Ahead k x y → 1 ≤ k → Ahead j y z → Ahead (chain i k j) w z
chained_right zero k j w x y z a b c d = λ p. omega arith
chained_right (suc i) k zero w x y z a b c d = λ p. omega arith
chained_right (suc i) k (suc j) w x y z a b c d = λ p. grind arith

pub known_same : (sx sy : AbstractValue) (level m n : ℕ) → m ≡ n → Ahead (level_between sx sy true level) m n
known_same (Between a b) (Between c d) level m n e = λ p. omega arith
known_same (Between a b) Unknown level m n e = λ p. omega arith
known_same (Between a b) (Implies i) level m n e = λ p. omega arith
known_same Unknown sy level m n e = λ p. omega arith
known_same (Implies i) sy level m n e = λ p. omega arith

pub number_is : (m n : ℕ) → Number m ≡ Number n → m ≡ n
number_is m n e = grind (arith, e)

-- two equal numbers, and two different ones
both_equal : (a b d : ℕ) → nat_eq a d ≡ true → nat_eq b d ≡ true → nat_eq a b ≡ true
both_equal a b d p q = grind (arith, p, q)

one_equal : (a b d : ℕ) → nat_eq a d ≡ true → nat_eq b d ≡ false → nat_eq a b ≡ true → ⊥
one_equal a b d p q r = grind (arith, p, q, r)

other_equal : (a b d : ℕ) → nat_eq a d ≡ false → nat_eq b d ≡ true → nat_eq a b ≡ true → ⊥
other_equal a b d p q r = grind (arith, p, q, r)

-- a write keeps the fit if its abstract value fits the new value and its levels are correct
module _ (side : Bool) (note : Note) (s : Store) (fits : Fits side note s) (d : Register) (v : Value) (sd : AbstractValue) (below above : Variable → ℕ) (fd : FitsSaid side sd v) (to : (y : Variable) (k n : ℕ) → v ≡ Number k → s y ≡ Number n → Ahead (below y) k n) (from : (y : Variable) (k n : ℕ) → v ≡ Number k → s y ≡ Number n → Ahead (above y) n k) where
  at_value : {a b : Value} (t : AbstractValue) → a ≡ b → FitsSaid side t a → FitsSaid side t b
  at_value t e = subst (λ w. FitsSaid side t w) e

  written_order : (x y : Variable) (m n : ℕ) (bx by : Bool) → same_variable x (variable.Register d) ≡ bx → same_variable y (variable.Register d) ≡ by → cond bx v (s x) ≡ Number m →
      cond by v (s y) ≡ Number n →
      Ahead (level_between (cond bx sd (note.values x)) (cond by sd (note.values y)) (same_variable x y) (cond bx (below y) (cond by (above x) (note.level x y)))) m n
  unfolding known_level
  written_order x y m n true true ex ey vx vy =
      let same : same_variable x y ≡ true = both_equal (variable_number x) (variable_number y) (variable_number (variable.Register d)) ex ey in
      let e : m ≡ n = number_is m n (sym vx ∙ vy) in
      rw same (known_same sd sd (below y) m n e)
  written_order x y m n true false ex ey vx vy =
      known_fits side sd (note.values y) (same_variable x y) (below y) m n (at_value sd vx fd) (at_value (note.values y) vy (fits.each y)) (to y m n vx vy) (λ e. absurd (one_equal (variable_number x) (variable_number y) (variable_number (variable.Register d)) ex ey e))
  written_order x y m n false true ex ey vx vy =
      known_fits side (note.values x) sd (same_variable x y) (above x) m n (at_value (note.values x) vx (fits.each x)) (at_value sd vy fd) (from x n m vy vx) (λ e. absurd (other_equal (variable_number x) (variable_number y) (variable_number (variable.Register d)) ex ey e))
  written_order x y m n false false ex ey vx vy = fits.order x y m n vx vy

  written_each : (x : Variable) (b : Bool) → FitsSaid side (cond b sd (note.values x)) (cond b v (s x))
  written_each x true = fd
  written_each x false = fits.each x

  pub written_fits : Fits side (assign note d sd below above) (update s (variable.Register d) v)
  unfolding assign update known_level
  written_fits = record {
    each = λ x. written_each x (same_variable x (variable.Register d));
    order = λ x y m n ex ey. written_order x y m n (same_variable x (variable.Register d)) (same_variable y (variable.Register d)) refl refl ex ey;
    beside = fits.beside;
  }

at_said : (side : Bool) (t : AbstractValue) {a b : Value} → a ≡ b → FitsSaid side t a → FitsSaid side t b
at_said side t e = subst (λ w. FitsSaid side t w) e

-- the abstract value that is read of a variable fits its value
pub with_side_fits : (side known_side : Bool) (t : AbstractValue) (v : Value) → (IsTrue known_side → IsTrue side) →
    FitsSaid side t v → FitsSaid side (with_side known_side t) v
with_side_fits side k Unknown v h f = tt
with_side_fits side k (Between lo hi) v h f = f
with_side_fits side k (Implies imp) Unset h f = f
with_side_fits side k (Implies imp) (Number n) h f = f
with_side_fits side k (Implies true) (Flag b) h f = λ p q. f refl q
with_side_fits side k (Implies false) (Flag b) h f = λ p q. h p

pub told_fits : (side : Bool) (note : Note) (s : Store) → Fits side note s → (x : Variable) → FitsSaid side (value_with_side note x) (s x)
unfolding value_with_side
told_fits side note s fits x = with_side_fits side note.side (note.values x) (s x) fits.beside (fits.each x)

pub both_left : (side : Bool) (a b : AbstractValue) (v : Value) → FitsSaid side a v → FitsSaid side (join_values a b) v
both_left side (Between a b) (Between c d) Unset f = f
both_left side (Between a b) (Between c d) (Flag t) f = f
both_left side (Between a b) (Between c d) (Number n) f = (omega arith, omega arith)
both_left side (Implies p) (Implies q) Unset f = f
both_left side (Implies p) (Implies q) (Number n) f = f
both_left side (Implies true) (Implies true) (Flag t) f = f
both_left side (Implies true) (Implies false) (Flag t) f = λ h. absurd (cc h)
both_left side (Implies false) (Implies q) (Flag t) f = λ h. absurd (cc h)
both_left side Unknown b v f = tt
both_left side (Between a b) Unknown v f = tt
both_left side (Between a b) (Implies q) v f = tt
both_left side (Implies p) Unknown v f = tt
both_left side (Implies p) (Between c d) v f = tt

pub both_right : (side : Bool) (a b : AbstractValue) (v : Value) → FitsSaid side b v → FitsSaid side (join_values a b) v
both_right side (Between a b) (Between c d) Unset f = f
both_right side (Between a b) (Between c d) (Flag t) f = f
both_right side (Between a b) (Between c d) (Number n) f = (omega arith, omega arith)
both_right side (Implies p) (Implies q) Unset f = f
both_right side (Implies p) (Implies q) (Number n) f = f
both_right side (Implies true) (Implies q) (Flag t) f = f
both_right side (Implies false) (Implies q) (Flag t) f = λ h. absurd (cc h)
both_right side Unknown b v f = tt
both_right side (Between a b) Unknown v f = tt
both_right side (Between a b) (Implies q) v f = tt
both_right side (Implies p) Unknown v f = tt
both_right side (Implies p) (Between c d) v f = tt

-- two equal variables have the same number
one_number : (s : Store) (x y : Variable) (m n : ℕ) → s x ≡ Number m → s y ≡ Number n → same_variable x y ≡ true → m ≡ n
one_number s x y m n ex ey e = let q : x ≡ y = same_is x y e in number_is m n (sym ex ∙ ap s q ∙ ey)

-- a note fits if its abstract values fit and its levels are correct
pub fits_from : (side : Bool) (note : Note) (s : Store) → ((x : Variable) → FitsSaid side (note.values x) (s x)) →
    ((x y : Variable) (m n : ℕ) → s x ≡ Number m → s y ≡ Number n → Ahead (note.level x y) m n) → (IsTrue note.side → IsTrue side) →
    Fits side note s
unfolding known_level
fits_from side note s each level beside = record {
  each = each;
  order = λ x y m n ex ey. known_fits side (note.values x) (note.values y) (same_variable x y) (note.level x y) m n (at_said side (note.values x) ex (each x)) (at_said side (note.values y) ey (each y)) (level x y m n ex ey) (one_number s x y m n ex ey);
  beside = beside;
}

pub and_left : (p q : Bool) → IsTrue (p && q) → IsTrue p
and_left true q h = refl
and_left false q h = h

pub and_right : (p q : Bool) → IsTrue (p && q) → IsTrue q
and_right true q h = h
and_right false q h = absurd (cc h)

pub joined_left : (side : Bool) (m n : Note) (s : Store) → Fits side m s → Fits side (join m n) s
unfolding join
joined_left side m n s fits =
    fits_from side (join m n) s (λ x. both_left side (value_with_side m x) (value_with_side n x) (s x) (told_fits side m s fits x)) (λ x y a b ex ey. ahead_min_left (known_level m x y) (known_level n x y) a b (fits.order x y a b ex ey)) (λ h. fits.beside (and_left m.side n.side h))

pub ahead_min_right : (j k m n : ℕ) → Ahead k m n → Ahead (min j k) m n
ahead_min_right j k m n a = λ p. grind arith

pub joined_right : (side : Bool) (m n : Note) (s : Store) → Fits side n s → Fits side (join m n) s
unfolding join
joined_right side m n s fits =
    fits_from side (join m n) s (λ x. both_right side (value_with_side m x) (value_with_side n x) (s x) (told_fits side n s fits x)) (λ x y a b ex ey. ahead_min_right (known_level m x y) (known_level n x y) a b (fits.order x y a b ex ey)) (λ h. fits.beside (and_right m.side n.side h))

known_max : (sx sy : AbstractValue) (same : Bool) (j k m n : ℕ) → Ahead (level_between sx sy same j) m n → Ahead k m n →
    Ahead (level_between sx sy same (max j k)) m n
known_max (Between a b) (Between c d) true j k m n f g = f
known_max (Between a b) (Between c d) false j k m n f g = λ p. grind arith
known_max (Between a b) Unknown same j k m n f g = f
known_max (Between a b) (Implies i) same j k m n f g = f
known_max Unknown sy same j k m n f g = f
known_max (Implies i) sy same j k m n f g = f

pub learnt_fits : (side : Bool) (note : Note) (s : Store) (p q : Variable) (k a b : ℕ) → Fits side note s → s p ≡ Number a →
    s q ≡ Number b → 1 ≤ k → Ahead k a b → Fits side (refine_order note p q k) s
unfolding refine_order known_level
learnt_fits side note s p q k a b fits ep eq k1 h = record {
  each = fits.each;
  order = λ x y m n ex ey. known_max (note.values x) (note.values y) (same_variable x y) (note.level x y) (chain (known_level note x p) k (known_level note q y)) m n (fits.order x y m n ex ey) (chained_right (known_level note x p) k (known_level note q y) m a b n (fits.order x p m a ex ep) h k1 (fits.order q y b n eq ey));
  beside = fits.beside;
}

imp_true : (side : Bool) (t : AbstractValue) → FitsSaid side t (Flag true) → IsTrue (implies t) → IsTrue side
imp_true side (Implies imp) f h = f h refl
imp_true side Unknown f h = absurd (cc h)
imp_true side (Between a b) f h = absurd (cc h)

pub either_true : (side p q : Bool) → (IsTrue p → IsTrue side) → (IsTrue q → IsTrue side) → IsTrue (p || q) → IsTrue side
either_true side true q f g h = f refl
either_true side false q f g h = g h

pub trusted_fits : (side : Bool) (note : Note) (s : Store) (a : Register) → Fits side note s → s (variable.Register a) ≡ Flag true →
    Fits side (refine_flag note a) s
unfolding refine_flag known_level
trusted_fits side note s a fits e = record {
  each = fits.each;
  order = fits.order;
  beside = either_true side note.side (implies (note.values (variable.Register a))) fits.beside (imp_true side (note.values (variable.Register a)) (at_said side (note.values (variable.Register a)) e (fits.each (variable.Register a))));
}
