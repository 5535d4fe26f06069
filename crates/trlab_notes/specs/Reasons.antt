-- The reasons to reject an instruction, from the note before it.
use Rattle.std.specs.Prelude.{ℕ, suc, ◌+◌, ◌*◌, ◌&&◌, ◌||◌, not, List, [], ◌∷◌, ◌++◌, Bool, true, false}
use Rattle.std.specs.{Prelude.{Option, Some, None, nat_eq, nat_lt, nat_le, if◌then◌else◌}, List.list_any}
use Rattle.trlab_code.specs.{declared.program.Kind.Kind, Machine.allows, Flow.{target, on_target, falls}}
use Rattle.trlab_code.specs.declared.instruction.{Register.Register, Instr.TheVariants.{JumpFalse, Go, Cross}}
use Rattle.trlab_code.specs.declared.instruction.{Input.{Input, TheVariants.{Limit, Gap}}, Instr.Instr}
use Rattle.trlab_code.specs.declared.instruction.Instr.TheVariants.{Add, Sub, Mul, Div, Min, Max, Not, And}
use Rattle.trlab_code.specs.declared.instruction.Instr.TheVariants.{Or, Copy, JumpLess, JumpAtMost, JumpTrue}
use Rattle.trlab_code.specs.declared.instruction.Variable.TheVariants as variable
use Rattle.trlab_bounds.specs.declared.programs.TheConstants.{MAX_NUMBER}
use Rattle.trlab_notes.specs.declared.note.AbstractValue.{AbstractValue}
use Rattle.trlab_notes.specs.declared.note.AbstractValue.TheVariants.{Unknown, Between, Implies}
use Rattle.trlab_notes.specs.{declared.reasons.{Operands.Operands, Reason.Reason}, Notes.{Note, known_level}}
use Rattle.trlab_notes.specs.Transfer.{register_value, most, register_level}
use Rattle.trlab_notes.specs.declared.reasons.Operands.TheVariants as read
use Rattle.trlab_notes.specs.declared.reasons.Reason.TheVariants as why

-- the number of a reason, 1 to 12, in the order in which reasons are tested
abbrev pub reason_number : Reason → ℕ
reason_number why.Unreachable = 1
reason_number why.WrongProgram = 2
reason_number why.MaybeUnset = 3
reason_number why.WrongValue = 4
reason_number why.JumpsBack = 5
reason_number why.JumpsOut = 6
reason_number why.FallsOut = 7
reason_number why.MaybeTooLarge = 8
reason_number why.MaybeBelowZero = 9
reason_number why.MaybeAboveGap = 10
reason_number why.MaybeAboveLimit = 11
reason_number why.MaybeOccupied = 12

-- is the instruction allowed both in programs of `kind` and in programs of `own`, the program's own kind?
abbrev pub is_of_kind : Kind → Kind → Instr → Bool
is_of_kind kind own instr = allows kind instr && allows own instr

-- the registers that an instruction reads, with the type of value that each must hold: a number, a flag, or
-- either
abbrev pub operands_of : Instr → Operands
operands_of (Copy d a) = read.Value a
operands_of (Add d a b) = read.Numbers a b
operands_of (Sub d a b) = read.Numbers a b
operands_of (Mul d a n) = read.Number a
operands_of (Div d a n) = read.Number a
operands_of (Min d a b) = read.Numbers a b
operands_of (Max d a b) = read.Numbers a b
operands_of (Not d a) = read.Flag a
operands_of (And d a b) = read.Flags a b
operands_of (Or d a b) = read.Flags a b
operands_of (JumpLess a b t) = read.Numbers a b
operands_of (JumpAtMost a b t) = read.Numbers a b
operands_of (JumpTrue a t) = read.Flag a
operands_of (JumpFalse a t) = read.Flag a
operands_of (Go a) = read.Number a
operands_of _ = read.Nothing

-- the operands that must hold numbers
abbrev pub numbers_of : Operands → List Register
numbers_of (read.Number a) = a ∷ []
numbers_of (read.Numbers a b) = a ∷ b ∷ []
numbers_of _ = []

-- the operands that must hold flags
abbrev pub flags_of : Operands → List Register
flags_of (read.Flag a) = a ∷ []
flags_of (read.Flags a b) = a ∷ b ∷ []
flags_of _ = []

-- the operands that may hold a number or a flag
abbrev pub values_of : Operands → List Register
values_of (read.Value a) = a ∷ []
values_of _ = []

-- is nothing known of a value? Then it may be unset
abbrev pub is_unknown : AbstractValue → Bool
is_unknown Unknown = true
is_unknown _ = false

-- is a value known to be a number?
abbrev pub is_range : AbstractValue → Bool
is_range (Between lo hi) = true
is_range _ = false

-- is a value known to be a flag?
abbrev pub is_flag : AbstractValue → Bool
is_flag (Implies implied) = true
is_flag _ = false

-- does one of these registers have an abstract value in the note that passes a test?
abbrev pub any_register : (AbstractValue → Bool) → Note → List Register → Bool
any_register test note registers = list_any (λ a. test (register_value note a)) registers

-- may an operand of the instruction be unset, by the note before it?
abbrev pub some_unset : Note → Instr → Bool
some_unset note instr =
    any_register is_unknown note (numbers_of (operands_of instr))
    || (any_register is_unknown note (flags_of (operands_of instr))
    || any_register is_unknown note (values_of (operands_of instr)))

-- is an operand of the instruction a flag instead of a number, or a number instead of a flag, by the note
-- before it?
abbrev pub some_of_wrong_type : Note → Instr → Bool
some_of_wrong_type note instr =
    any_register is_flag note (numbers_of (operands_of instr))
    || any_register is_range note (flags_of (operands_of instr))

-- may control continue past the end of the program: is the instruction at pc the last of len instructions,
-- and not an end or a `jump`?
abbrev pub falls_out : ℕ → ℕ → Instr → Bool
falls_out len pc instr = falls instr && nat_le len (suc pc)

-- may the result of `add` or `mul` be above MAX_NUMBER, by the note before it? false for other instructions
abbrev pub may_be_too_large : Note → Instr → Bool
may_be_too_large note (Add d a b) = nat_lt MAX_NUMBER (most note a + most note b)
may_be_too_large note (Mul d a n) = nat_lt MAX_NUMBER (most note a * n)
may_be_too_large note _ = false

-- may the result of `sub` be below zero, because the note before it does not know that b is at most a? false
-- for other instructions
abbrev pub may_be_below_zero : Note → Instr → Bool
may_be_below_zero note (Sub d a b) = nat_eq (register_level note b a) 0
may_be_below_zero note _ = false

-- may the speed of `go` be above input k, the gap or the limit, because the note before it does not know that
-- it is at most k? false for other instructions
abbrev pub may_be_above : Input → Note → Instr → Bool
may_be_above k note (Go a) = nat_eq (known_level note (variable.Register a) (variable.Input k)) 0
may_be_above k note _ = false

-- may the side cell be occupied at a `cross`, because the note before it does not know that it is empty?
-- false for other instructions
abbrev pub may_be_occupied : Note → Instr → Bool
may_be_occupied note Cross = not note.side
may_be_occupied note _ = false

-- a reason to reject an instruction, and whether it holds against this instruction
pub record JudgedReason : Type 0 where
  pub reason : Reason
  pub holds : Bool

-- the reasons 2 to 7 against the instruction at pc, one of len instructions, and whether each holds by the
-- note before it: its kind is wrong; an operand may be unset, or is of the wrong type; its jump does not go
-- forward, or leaves the program; or control may continue past the end
abbrev pub form_checks : Kind → Kind → ℕ → ℕ → Note → Instr → List JudgedReason
form_checks kind own len pc note instr =
    record { reason = why.WrongProgram; holds = not (is_of_kind kind own instr) }
    ∷ record { reason = why.MaybeUnset; holds = some_unset note instr }
    ∷ record { reason = why.WrongValue; holds = some_of_wrong_type note instr }
    ∷ record { reason = why.JumpsBack; holds = on_target (λ t. nat_le t pc) (target instr) }
    ∷ record { reason = why.JumpsOut; holds = on_target (λ t. nat_le len t) (target instr) }
    ∷ record { reason = why.FallsOut; holds = falls_out len pc instr }
    ∷ []

-- the reasons 8 to 12 against an instruction, and whether each holds by the note before it: its result or its
-- answer may be out of range
abbrev pub range_checks : Note → Instr → List JudgedReason
range_checks note instr =
    record { reason = why.MaybeTooLarge; holds = may_be_too_large note instr }
    ∷ record { reason = why.MaybeBelowZero; holds = may_be_below_zero note instr }
    ∷ record { reason = why.MaybeAboveGap; holds = may_be_above Gap note instr }
    ∷ record { reason = why.MaybeAboveLimit; holds = may_be_above Limit note instr }
    ∷ record { reason = why.MaybeOccupied; holds = may_be_occupied note instr }
    ∷ []

-- the first of these reasons that holds; `None` if none does
abbrev pub first_reason : List JudgedReason → Option Reason
first_reason [] = None
first_reason (check ∷ checks) = if check.holds then Some check.reason else first_reason checks

-- the first of the reasons 2 to 12 that holds against the instruction at pc, one of len instructions, by the
-- note before it; `None` if none holds
abbrev pub reason_against : Kind → Kind → ℕ → ℕ → Note → Instr → Option Reason
reason_against kind own len pc note instr =
    first_reason (form_checks kind own len pc note instr ++ range_checks note instr)
