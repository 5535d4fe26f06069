-- Canonical texts: the one text that is printed for a program.
use Rattle.std.specs.Prelude.{ℕ, ◌+◌, Bool, false, List, [], ◌∷◌, ◌++◌, length, codes, decimal, nat_lt}
use Rattle.std.specs.{Prelude.{nat_eq, Option, None, Some, if◌then◌else◌}, List.list_any}
use Rattle.trlab_code.specs.{Flow.target, declared.instruction.Instr.{Instr, TheVariants.{Num, Get, Side}}}
use Rattle.trlab_code.specs.declared.instruction.Instr.TheVariants.{Draw, Copy, Add, Sub, Mul, Div, Min, Max}
use Rattle.trlab_code.specs.declared.instruction.Instr.TheVariants.{Not, And, Or, Jump, JumpLess, JumpAtMost}
use Rattle.trlab_code.specs.declared.instruction.Instr.TheVariants.{JumpTrue, JumpFalse, Go, Cross, Stay}
use Rattle.trlab_asm.specs.Names.{register_text, input_text, mnemonic_text}
use Rattle.trlab_asm.specs.declared.{names.Mnemonic.Mnemonic, printing.Operand.Operand}
use Rattle.trlab_asm.specs.declared.printing.Operand.TheVariants.{Register, Input, Number, Label, Beyond}
use Rattle.trlab_asm.specs.declared.printing.Operation.{Operation, TheVariants.{Bare, One, Two, Three}}
use Rattle.trlab_asm.specs.declared.names.Mnemonic.TheVariants as name

-- the label that is printed for the instruction at pc: `L` and the digits of pc, for example `L12`
abbrev pub label_text : ℕ → List ℕ
label_text pc = codes "L" ++ decimal pc

-- the target of a jump as it is printed in a program of `count` instructions: a label, for example `L12`, or
-- `@` and the pc, for example `@12`, if it is past the end of the program
abbrev pub target_text : ℕ → ℕ → List ℕ
target_text count pc = if nat_lt pc count then label_text pc else codes "@" ++ decimal pc

-- an operand as it is printed: a name, a number, a label, or `@` and a pc
abbrev pub operand_text : Operand → List ℕ
operand_text (Register register) = register_text register
operand_text (Input input) = input_text input
operand_text (Number n) = decimal n
operand_text (Label pc) = label_text pc
operand_text (Beyond pc) = codes "@" ++ decimal pc

infixr 20 ◌comma◌
-- an operand, a comma and a space, and the operands after it: `r0, r1`
abbrev pub ◌comma◌ : List ℕ → List ℕ → List ℕ
operand comma others = operand ++ (codes ", " ++ others)

-- the name of an instruction, a space, and its operands: `not r0, r1`
abbrev pub with_operands : Mnemonic → List ℕ → List ℕ
with_operands name operands = mnemonic_text name ++ (codes " " ++ operands)

-- the text of an instruction whose operands are ready to print: its name, a space and the operands separated
-- by `, `, for example `add r0, r1, r2`; without operands only its name
abbrev pub operation_text : Operation → List ℕ
operation_text (Bare name) = mnemonic_text name
operation_text (One name a) = with_operands name (operand_text a)
operation_text (Two name a b) = with_operands name (operand_text a comma operand_text b)
operation_text (Three name a b c) = with_operands name (operand_text a comma operand_text b comma operand_text c)

-- an instruction as it is printed in a program of `count` instructions, for example `add r0, r1, r2` or
-- `jtrue r0, L12`
abbrev pub instr_text : ℕ → Instr → List ℕ
instr_text count (Num d n) = with_operands name.Num (register_text d comma decimal n)
instr_text count (Get d k) = with_operands name.Get (register_text d comma input_text k)
instr_text count (Side d) = with_operands name.Side (register_text d)
instr_text count (Draw d k t) = with_operands name.Draw (register_text d comma decimal k comma decimal t)
instr_text count (Copy d a) = with_operands name.Copy (register_text d comma register_text a)
instr_text count (Add d a b) = with_operands name.Add (register_text d comma register_text a comma register_text b)
instr_text count (Sub d a b) = with_operands name.Sub (register_text d comma register_text a comma register_text b)
instr_text count (Mul d a n) = with_operands name.Mul (register_text d comma register_text a comma decimal n)
instr_text count (Div d a n) = with_operands name.Div (register_text d comma register_text a comma decimal n)
instr_text count (Min d a b) = with_operands name.Min (register_text d comma register_text a comma register_text b)
instr_text count (Max d a b) = with_operands name.Max (register_text d comma register_text a comma register_text b)
instr_text count (Not d a) = with_operands name.Not (register_text d comma register_text a)
instr_text count (And d a b) = with_operands name.And (register_text d comma register_text a comma register_text b)
instr_text count (Or d a b) = with_operands name.Or (register_text d comma register_text a comma register_text b)
instr_text count (Jump t) = with_operands name.Jump (target_text count t)
instr_text count (JumpLess a b t) =
    with_operands name.JumpLess (register_text a comma register_text b comma target_text count t)
instr_text count (JumpAtMost a b t) =
    with_operands name.JumpAtMost (register_text a comma register_text b comma target_text count t)
instr_text count (JumpTrue a t) = with_operands name.JumpTrue (register_text a comma target_text count t)
instr_text count (JumpFalse a t) = with_operands name.JumpFalse (register_text a comma target_text count t)
instr_text count (Go a) = with_operands name.Go (register_text a)
instr_text count Cross = mnemonic_text name.Cross
instr_text count Stay = mnemonic_text name.Stay

-- is pc the target of an instruction? false if the instruction has no target
abbrev pub is_pc : ℕ → Option ℕ → Bool
is_pc pc None = false
is_pc pc (Some t) = nat_eq t pc

-- is pc the target of some jump among the instructions?
abbrev pub is_jumped_to : List Instr → ℕ → Bool
is_jumped_to instrs pc = list_any (λ instr. is_pc pc (target instr)) instrs

-- the line of the instruction at pc, without its LF, in a program of `count` instructions; if `is_marked` is
-- true, it begins with a label, as in `L12: go r0`
abbrev pub instr_line : ℕ → Bool → ℕ → Instr → List ℕ
instr_line count is_marked pc instr =
    if is_marked then label_text pc ++ (codes ": " ++ instr_text count instr) else instr_text count instr

-- the lines of `rest`, the instructions of the program `instrs` from pc on, each with its LF; the lines
-- of targets of the program's jumps have labels
unfoldable pub text_from : List Instr → ℕ → List Instr → List ℕ
text_from instrs pc [] = []
text_from instrs pc (instr ∷ rest) =
    instr_line (length instrs) (is_jumped_to instrs pc) pc instr ++ (10 ∷ text_from instrs (pc + 1) rest)

-- the canonical text of a program's instructions, one per line, each with its LF; the line of
-- a jump's target has a label. For example, a jump to instruction 1, a `stay`, is `jump L1` LF `L1: stay` LF
abbrev pub canonical_text : List Instr → List ℕ
canonical_text instrs = text_from instrs 0 instrs
