-- Different programs have different encodings.
use Rattle.std.proofs.Common.{◌≡◌, ◌∙◌, ℕ, ◌+◌, ◌*◌, ◌/◌, ◌%◌, ◌^◌, ◌&&◌, List, [], ◌∷◌, drop, get_or, Bool}
use Rattle.std.proofs.Common.{true, false, refl, sym, ap, subst, arith, nat_eq, flat_map, Decides, eqb-true}
use Rattle.std.proofs.Common.{eq-eqb}
use Rattle.trlab_code.specs.declared.program.Kind.{Kind, TheVariants.{Motion, Change}}
use Rattle.trlab_code.specs.declared.instruction.{Register.Register, Input.TheVariants.{Lane, Headspeed}}
use Rattle.trlab_code.specs.declared.instruction.Register.TheVariants.{R0, R1, R2, R3, R4, R5, R6, R7}
use Rattle.trlab_code.specs.declared.instruction.{Input.Input, Instr.{Instr, TheVariants.{Go, Cross, Stay}}}
use Rattle.trlab_code.specs.declared.instruction.Input.TheVariants.{Speed, Limit, Gap, SideGap, SideBack}
use Rattle.trlab_code.specs.declared.instruction.Instr.TheVariants.{Num, Get, Side, Draw, Copy, Add, Sub, Mul}
use Rattle.trlab_code.specs.declared.instruction.Instr.TheVariants.{Div, Min, Max, Not, And, Or, Jump}
use Rattle.trlab_code.specs.declared.instruction.Instr.TheVariants.{JumpLess, JumpAtMost, JumpTrue, JumpFalse}
use Rattle.trlab_code.specs.declared.row.InstructionRow.{InstructionRow}
use Rattle.trlab_code.specs.contracts.row.InstrPartialEq.TheImpl.{eq-value as same}
use Rattle.trlab_code.specs.{Program.Program, Encoding.{kind_byte, row_of, row_bytes, instr_bytes, encoding}}
use Rattle.trlab_code.specs.Machine.{register_number, input_number}

same_kind : (k l : Kind) → kind_byte k ≡ kind_byte l → k ≡ l
same_kind Motion Motion h = refl
same_kind Change Change h = refl
same_kind _ _ h = cc

-- the instruction whose bytes these are, part by part
abbrev register_of : ℕ → Register
register_of n = get_or (R0 ∷ R1 ∷ R2 ∷ R3 ∷ R4 ∷ R5 ∷ R6 ∷ R7 ∷ []) n R0

register_back : (r : Register) → register_of (register_number r) ≡ r
register_back R0 = refl
register_back R1 = refl
register_back R2 = refl
register_back R3 = refl
register_back R4 = refl
register_back R5 = refl
register_back R6 = refl
register_back R7 = refl

abbrev input_of : ℕ → Input
input_of n = get_or (Speed ∷ Limit ∷ Gap ∷ SideGap ∷ SideBack ∷ Lane ∷ Headspeed ∷ []) n Speed

input_back : (k : Input) → input_of (input_number k) ≡ k
input_back Speed = refl
input_back Limit = refl
input_back Gap = refl
input_back SideGap = refl
input_back SideBack = refl
input_back Lane = refl
input_back Headspeed = refl

abbrev number_of : ℕ → ℕ → ℕ → ℕ → ℕ
number_of low second third high = low + 256 * second + 65536 * third + 16777216 * high

digits_back : (n : ℕ) → n % 256 + 256 * (n / 256 % 256) + 65536 * (n / 65536 % 256) + 16777216 * (n / 16777216) ≡ n
digits_back n = omega arith

number_back : (n : ℕ) → number_of (n % 256) (n / 256 % 256) (n / 256 ^ 2 % 256) (n / 256 ^ 3) ≡ n
number_back n = digits_back n

abbrev instr_of : ℕ → ℕ → ℕ → ℕ → ℕ → Instr
instr_of opcode a b c n =
    let r = register_of a in
    let s = register_of b in
    let t = register_of c in
    get_or (Stay ∷ Num r n ∷ Get r (input_of b) ∷ Side r ∷ Draw r b n ∷ Copy r s ∷ Add r s t ∷ Sub r s t ∷ Mul r s n ∷ Div r s n
    ∷ Min r s t ∷ Max r s t ∷ Not r s ∷ And r s t ∷ Or r s t ∷ Jump n ∷ JumpLess r s n ∷ JumpAtMost r s n ∷ JumpTrue r n
    ∷ JumpFalse r n ∷ Go r ∷ Cross ∷ []) opcode Stay

-- the instruction that bytes begin with
abbrev first_of : List ℕ → Instr
first_of bytes =
    let at : ℕ → ℕ = λ (k : ℕ). get_or bytes k 0 in
    instr_of (at 0) (at 1) (at 2) (at 3) (number_of (at 4) (at 5) (at 6) (at 7))

instr_back : (i : Instr) → first_of (instr_bytes i) ≡ i
instr_back (Num a n) = λ z. Num (register_back a z) (number_back n z)
instr_back (Get a k) = λ z. Get (register_back a z) (input_back k z)
instr_back (Side a) = λ z. Side (register_back a z)
instr_back (Draw a k n) = λ z. Draw (register_back a z) k (number_back n z)
instr_back (Copy a b) = λ z. Copy (register_back a z) (register_back b z)
instr_back (Add a b c) = λ z. Add (register_back a z) (register_back b z) (register_back c z)
instr_back (Sub a b c) = λ z. Sub (register_back a z) (register_back b z) (register_back c z)
instr_back (Mul a b n) = λ z. Mul (register_back a z) (register_back b z) (number_back n z)
instr_back (Div a b n) = λ z. Div (register_back a z) (register_back b z) (number_back n z)
instr_back (Min a b c) = λ z. Min (register_back a z) (register_back b z) (register_back c z)
instr_back (Max a b c) = λ z. Max (register_back a z) (register_back b z) (register_back c z)
instr_back (Not a b) = λ z. Not (register_back a z) (register_back b z)
instr_back (And a b c) = λ z. And (register_back a z) (register_back b z) (register_back c z)
instr_back (Or a b c) = λ z. Or (register_back a z) (register_back b z) (register_back c z)
instr_back (Jump n) = λ z. Jump (number_back n z)
instr_back (JumpLess a b n) = λ z. JumpLess (register_back a z) (register_back b z) (number_back n z)
instr_back (JumpAtMost a b n) = λ z. JumpAtMost (register_back a z) (register_back b z) (number_back n z)
instr_back (JumpTrue a n) = λ z. JumpTrue (register_back a z) (number_back n z)
instr_back (JumpFalse a n) = λ z. JumpFalse (register_back a z) (number_back n z)
instr_back (Go a) = λ z. Go (register_back a z)
instr_back Cross = refl
instr_back Stay = refl

-- an instruction is known by its bytes
pub same_instr : {x y : Instr} → instr_bytes x ≡ instr_bytes y → x ≡ y
same_instr {x} {y} h = sym (instr_back x) ∙ ap first_of h ∙ instr_back y

both : (p q : Bool) → (p && q) ≡ true → (p ≡ true) × (q ≡ true)
both true true h = (refl, refl)
both true false h = absurd (cc h)
both false q h = absurd (cc h)

and_true : (p q : Bool) → p ≡ true → q ≡ true → (p && q) ≡ true
and_true p q e f = rw (e, f) refl

-- rows with equal fields are equal
same_row : (r s : InstructionRow) → r.opcode ≡ s.opcode → r.a ≡ s.a → r.b ≡ s.b → r.c ≡ s.c → r.number ≡ s.number → r ≡ s
same_row r s o a b c n = λ i. record { opcode = o i; a = a i; b = b i; c = c i; number = n i }

from_same : (x y : Instr) → same.it x y ≡ true → x ≡ y
from_same x y h =
    let o = both _ _ h in
    let a = both _ _ o.1 in
    let b = both _ _ a.1 in
    let c = both _ _ b.1 in
    same_instr (ap row_bytes (same_row (row_of x) (row_of y) (eqb-true _ _ o.0) (eqb-true _ _ a.0) (eqb-true _ _ b.0) (eqb-true _ _ c.0) (eqb-true _ _ c.1)))

of_itself : (x : Instr) → same.it x x ≡ true
of_itself x =
    let n : (m : ℕ) → nat_eq m m ≡ true = λ m. eq-eqb m m refl in
    let r = row_of x in
    and_true _ _ (n r.opcode) (and_true _ _ (n r.a) (and_true _ _ (n r.b) (and_true _ _ (n r.c) (n r.number))))

-- the test of two instructions decides whether they are equal
pub same_decides : (x y : Instr) → Decides (same.it x y) (x ≡ y)
same_decides x y = (from_same x y, λ e. subst (λ z. same.it x z ≡ true) e (of_itself x))

same_first : (x y : Instr) (xs ys : List Instr) → flat_map instr_bytes (x ∷ xs) ≡ flat_map instr_bytes (y ∷ ys) → x ≡ y
same_first x y xs ys h = sym (instr_back x) ∙ ap first_of h ∙ instr_back y

same_instrs : (xs ys : List Instr) → flat_map instr_bytes xs ≡ flat_map instr_bytes ys → xs ≡ ys
same_instrs [] [] h = refl
same_instrs [] (y ∷ ys) h = cc
same_instrs (x ∷ xs) [] h = cc
same_instrs (x ∷ xs) (y ∷ ys) h = let first = same_first x y xs ys h in let rest = same_instrs xs ys (ap (drop 8) h) in λ z. first z ∷ rest z

-- a program is known by its encoding
same_parts : {k l : Kind} {xs ys : List Instr} → k ≡ l → xs ≡ ys → ◌≡◌ {A = Program} (record { kind = k; instrs = xs }) (record { kind = l; instrs = ys })
same_parts e f = cc

pub same_program : (p q : Program) → encoding p ≡ encoding q → p ≡ q
unfolding encoding
same_program p q h =
    let rest = ap (drop 8) h in
    let byte = ap (λ bytes. get_or bytes 5 0) h in
    same_parts (same_kind p.kind q.kind byte) (same_instrs p.instrs q.instrs rest)
