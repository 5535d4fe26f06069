-- Names are read back.
use Rattle.std.proofs.Common.{◌≡◌, ℕ, Bool, true, List, [], ◌∷◌, Option, Some, find, refl, sym, ap, ◌∙◌, inl}
use Rattle.std.proofs.{Common.{inr, bytes_eq}, lemmas.{Bool.cases_Bool, Slice.Eq.bytes_eq-Decides}}
use Rattle.trlab_code.specs.declared.instruction.Register.{Register, TheVariants.{R0, R1, R2, R3, R4, R5, R6}}
use Rattle.trlab_code.specs.declared.instruction.{Register.TheVariants.R7, Input.{Input, TheVariants.Speed}}
use Rattle.trlab_code.specs.declared.instruction.Input.TheVariants.{Limit, Gap, SideGap, SideBack, Lane}
use Rattle.trlab_code.specs.declared.instruction.Input.TheVariants.{Headspeed}
use Rattle.trlab_asm.specs.declared.names.{Mnemonic.Mnemonic, TheConstants.{REGISTERS, INPUTS, MNEMONICS}}
use Rattle.trlab_asm.specs.Names.{register_text, input_text, mnemonic_text, register_named, input_named}
use Rattle.trlab_asm.specs.Names.{mnemonic_named}
use Rattle.trlab_asm.specs.Laws.{RegistersAreNamed, InputsAreNamed, InstructionsAreNamed}
use Rattle.trlab_asm.specs.declared.names.Mnemonic.TheVariants as name

some_inside : {X : Type 0} {a b : X} → ◌≡◌ {A = Option X} (Some a) (Some b) → a ≡ b
some_inside h = cc

-- an element that `find` returns passes the test
find_passes : {X : Type 0} (p : X → Bool) (xs : List X) (x : X) → find p xs ≡ Some x → p x ≡ true
find_passes p [] x h = absurd cc
find_passes p (y ∷ ys) x h =
    elim (cases_Bool (p y)) [
      | inl passes ↦ let same = some_inside (rw passes at h) in ap p (sym same) ∙ passes
      | inr fails ↦ find_passes p ys x (rw fails at h)
    ]

-- a word for which an element is found is the text of this element
found : {X : Type 0} (text : X → List ℕ) (xs : List X) (word : List ℕ) (x : X) → find (λ y. bytes_eq (text y) word) xs ≡ Some x → word ≡ text x
found text xs word x h = sym ((bytes_eq-Decides (text x) word).0 (find_passes (λ y. bytes_eq (text y) word) xs x h))

register_back : (r : Register) → register_named (register_text r) ≡ Some r
register_back R0 = refl
register_back R1 = refl
register_back R2 = refl
register_back R3 = refl
register_back R4 = refl
register_back R5 = refl
register_back R6 = refl
register_back R7 = refl

input_back : (k : Input) → input_named (input_text k) ≡ Some k
input_back Speed = refl
input_back Limit = refl
input_back Gap = refl
input_back SideGap = refl
input_back SideBack = refl
input_back Lane = refl
input_back Headspeed = refl

name_back : (x : Mnemonic) → mnemonic_named (mnemonic_text x) ≡ Some x
name_back name.Num = refl
name_back name.Get = refl
name_back name.Side = refl
name_back name.Draw = refl
name_back name.Copy = refl
name_back name.Add = refl
name_back name.Sub = refl
name_back name.Mul = refl
name_back name.Div = refl
name_back name.Min = refl
name_back name.Max = refl
name_back name.Not = refl
name_back name.And = refl
name_back name.Or = refl
name_back name.Jump = refl
name_back name.JumpLess = refl
name_back name.JumpAtMost = refl
name_back name.JumpTrue = refl
name_back name.JumpFalse = refl
name_back name.Go = refl
name_back name.Cross = refl
name_back name.Stay = refl

pub registers : RegistersAreNamed
registers word r = (found register_text REGISTERS word r, λ e. rw e (register_back r))

pub inputs : InputsAreNamed
inputs word k = (found input_text INPUTS word k, λ e. rw e (input_back k))

pub instructions : InstructionsAreNamed
instructions word x = (found mnemonic_text MNEMONICS word x, λ e. rw e (name_back x))
