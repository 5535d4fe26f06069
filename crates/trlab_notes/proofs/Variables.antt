-- Variables and their numbers: each variable has a number below `VARIABLES`, and each such number is a
-- variable's.
use Rattle.std.proofs.Common.{◌≡◌, ◌∙◌, ℕ, zero, suc, ◌+◌, ◌<◌, refl, sym, ap, subst, arith, List, [], ◌∷◌}
use Rattle.std.proofs.Common.{length, map, true, get_or, eqb-true}
use Rattle.trlab_bounds.specs.declared.programs.TheConstants.{VARIABLES}
use Rattle.trlab_code.specs.declared.instruction.Register.{Register, TheVariants.{R0, R1, R2, R3, R4, R5, R6}}
use Rattle.trlab_code.specs.declared.instruction.{Register.TheVariants.R7, Input.{Input, TheVariants.Speed}}
use Rattle.trlab_code.specs.declared.instruction.Input.TheVariants.{Limit, Gap, SideGap, SideBack, Lane}
use Rattle.trlab_code.specs.declared.instruction.{Input.TheVariants.Headspeed, Variable.Variable}
use Rattle.trlab_code.specs.Machine.{register_number, input_number, variable_number}
use Rattle.trlab_code.specs.declared.instruction.Variable.TheVariants as variable
use Rattle.trlab_notes.specs.Notes.{same_variable}

-- the variables in the order of their numbers
abbrev pub variables : List Variable
variables =
    variable.Register R0 ∷ variable.Register R1 ∷ variable.Register R2 ∷ variable.Register R3
    ∷ variable.Register R4 ∷ variable.Register R5 ∷ variable.Register R6 ∷ variable.Register R7
    ∷ variable.Input Speed ∷ variable.Input Limit ∷ variable.Input Gap
    ∷ variable.Input SideGap ∷ variable.Input SideBack ∷ variable.Input Lane ∷ variable.Input Headspeed ∷ []

abbrev pub variable_of : ℕ → Variable
variable_of k = get_or variables k (variable.Register R0)

-- the variable of a variable's number
pub back : (x : Variable) → variable_of (variable_number x) ≡ x
back (variable.Register R0) = refl
back (variable.Register R1) = refl
back (variable.Register R2) = refl
back (variable.Register R3) = refl
back (variable.Register R4) = refl
back (variable.Register R5) = refl
back (variable.Register R6) = refl
back (variable.Register R7) = refl
back (variable.Input Speed) = refl
back (variable.Input Limit) = refl
back (variable.Input Gap) = refl
back (variable.Input SideGap) = refl
back (variable.Input SideBack) = refl
back (variable.Input Lane) = refl
back (variable.Input Headspeed) = refl

pub register_below : (r : Register) → register_number r < 8
register_below R0 = omega arith
register_below R1 = omega arith
register_below R2 = omega arith
register_below R3 = omega arith
register_below R4 = omega arith
register_below R5 = omega arith
register_below R6 = omega arith
register_below R7 = omega arith

input_below : (k : Input) → 8 + input_number k < VARIABLES
input_below Speed = omega arith
input_below Limit = omega arith
input_below Gap = omega arith
input_below SideGap = omega arith
input_below SideBack = omega arith
input_below Lane = omega arith
input_below Headspeed = omega arith

pub below : (x : Variable) → variable_number x < VARIABLES
below (variable.Register r) = let h = register_below r in omega (arith, h)
below (variable.Input k) = input_below k

-- variables with the same number are equal
pub same_is : (x y : Variable) → same_variable x y ≡ true → x ≡ y
same_is x y e = sym (back x) ∙ ap variable_of (eqb-true (variable_number x) (variable_number y) e) ∙ back y

-- the variables are numbered from n on
abbrev AreNumbered : ℕ → List Variable → Type 0
AreNumbered n [] = Unit {0}
AreNumbered n (x ∷ xs) = (variable_number x ≡ n) × AreNumbered (suc n) xs

number_at : (xs : List Variable) (n k : ℕ) → AreNumbered n xs → k < length xs → variable_number (get_or xs k (variable.Register R0)) ≡ n + k
number_at [] n k c h = absurd (omega arith)
number_at (x ∷ xs) n zero c h = let e = c.0 in omega (arith, e)
number_at (x ∷ xs) n (suc k) c h = let e = number_at xs (suc n) k c.1 (omega arith) in omega (arith, e)

pub forth : (k : ℕ) → k < VARIABLES → variable_number (variable_of k) ≡ k
forth k h = let e = number_at variables 0 k (refl, (refl, (refl, (refl, (refl, (refl, (refl, (refl, (refl, (refl, (refl, (refl, (refl, (refl, (refl, tt))))))))))))))) h in omega (arith, e)

-- a property of the number of each variable is one of each number
pub at_numbers : (P : ℕ → Type 0) → ((x : Variable) → P (variable_number x)) → (k : ℕ) → k < VARIABLES → P k
at_numbers P h k lt = subst P (forth k lt) (h (variable_of k))

map_at : {A B : Type 0} (f : A → B) (l : List A) (k : ℕ) (d : A) (z : B) → k < length l → get_or (map f l) k z ≡ f (get_or l k d)
map_at f [] k d z h = absurd (omega arith)
map_at f (x ∷ xs) zero d z h = refl
map_at f (x ∷ xs) (suc k) d z h = map_at f xs k d z (omega arith)

-- a table of the values of f at all variables
pub at_variable : {B : Type 0} (f : Variable → B) (z : B) (l : List B) → l ≡ map f variables → (x : Variable) → get_or l (variable_number x) z ≡ f x
at_variable f z l e x =
    ap (λ m. get_or m (variable_number x) z) e ∙ map_at f variables (variable_number x) (variable.Register R0) z (below x) ∙ ap f (back x)
