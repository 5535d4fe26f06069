-- The causes of faults: the numbers that are printed for rejected texts, and the input that was wanted.
use Rattle.std.specs.Prelude.{◌≢◌, ℕ, ◌+◌, ◌≡◌, Err}
use Rattle.trlab_code.specs.declared.fault.CodeFault.{CodeFault, TheVariants.{Short, Magic, Version}}
use Rattle.trlab_code.specs.declared.fault.CodeFault.TheVariants.{Kind as CodeKind, Count, Opcode, Field}
use Rattle.trlab_code.specs.declared.fault.CodeFault.TheVariants.{Trailing, Memory as CodeMemory}
use Rattle.trlab_code.specs.declared.{fault.CodeFault.TheVariants.NeedlessVersion, program.Kind.Kind}
use Rattle.trlab_asm.specs.declared.fault.Why.{Why}
use Rattle.trlab_asm.specs.declared.fault.Why.TheVariants.{Word, Operand, Number as WrongNumber, LabelTwice}
use Rattle.trlab_asm.specs.declared.fault.Why.TheVariants.{NoLabel, TooLong, Empty, Memory as WhyMemory}
use Rattle.trlab_road.specs.declared.fault.RoadFault.{RoadFault, TheVariants.{Lanes, Length, Limit}}
use Rattle.trlab_road.specs.declared.fault.RoadFault.TheVariants.{Character, SpeedAboveLimit, TooManyCars}
use Rattle.trlab_road.specs.declared.fault.RoadFault.TheVariants.{Memory as RoadMemory}
use Rattle.trlab_texts.specs.declared.fault.Cause.{Cause, TheVariants.{Line, Number as NoNumber, Key}}
use Rattle.trlab_texts.specs.declared.fault.Cause.TheVariants.{OneLane, Order, TooMany, Work as TooMuchWork}
use Rattle.trlab_texts.specs.declared.fault.Cause.TheVariants.{Hex, TooBig, Program as InProgram, Code, Road}
use Rattle.trlab_texts.specs.declared.fault.Cause.TheVariants.{StandardRefused, Verdict}
use Rattle.trlab_texts.specs.declared.fault.TextFault.{TextFault, TheVariants.{At, Memory}}
use Rattle.trlab_texts.specs.declared.refusal.Wanted.{Wanted as Wish, TheVariants.{Nothing, Lines, Number}}
use Rattle.trlab_texts.specs.declared.refusal.Wanted.TheVariants.{Digits, SecondLane, Step, Work, Cells}
use Rattle.trlab_texts.specs.{declared.refusal.Wanted.TheVariants.{Speed, Program}, Words.{number_of, within}}
use Rattle.trlab_verify.specs.Verdict.{IsRefused}

-- The numbers of causes, which are printed for rejected texts.

-- the number, from 1 to 8, of a fault in a program's lines; 8 is a failed allocation and is never printed
abbrev pub why_number : Why → ℕ
why_number Word = 1
why_number Operand = 2
why_number WrongNumber = 3
why_number LabelTwice = 4
why_number NoLabel = 5
why_number TooLong = 6
why_number Empty = 7
why_number WhyMemory = 8

-- the number, from 1 to 10, of a fault in a program's bytes; 9 is a failed allocation and is never printed
abbrev pub code_fault_number : CodeFault → ℕ
code_fault_number Short = 1
code_fault_number Magic = 2
code_fault_number Version = 3
code_fault_number CodeKind = 4
code_fault_number Count = 5
code_fault_number (Opcode pc) = 6
code_fault_number (Field pc) = 7
code_fault_number Trailing = 8
code_fault_number CodeMemory = 9
code_fault_number NeedlessVersion = 10

-- the number, from 1 to 7, of a fault of a road; 6 is a failed allocation and is never printed
abbrev pub road_fault_number : RoadFault → ℕ
road_fault_number Lanes = 1
road_fault_number Length = 2
road_fault_number Limit = 3
road_fault_number (Character lane place) = 4
road_fault_number (SpeedAboveLimit lane place) = 5
road_fault_number RoadMemory = 6
road_fault_number TooManyCars = 7

-- the printed number of a cause: 1 to 9 for the words, the lines and the size of an input; 10, 20 or 30 plus
-- the fault's number for a program's lines, a program's bytes or a road; 40 for a rejected standard rule, and
-- 40 plus the verifier's reason for any other rejected program. For example, 37 is too many cars
abbrev pub cause_number : Cause → ℕ
cause_number Line = 1
cause_number NoNumber = 2
cause_number Key = 3
cause_number OneLane = 4
cause_number Order = 5
cause_number TooMany = 6
cause_number TooMuchWork = 7
cause_number Hex = 8
cause_number TooBig = 9
cause_number (InProgram why) = 10 + why_number why
cause_number (Code fault) = 20 + code_fault_number fault
cause_number (Road fault) = 30 + road_fault_number fault
cause_number StandardRefused = 40
cause_number (Verdict reason) = 40 + reason

-- the cause is not that the verifier rejects a standard rule: its number is not 40
abbrev pub IsNotStandardRefused : Cause → Type 0
IsNotStandardRefused cause = cause_number cause ≢ cause_number StandardRefused

-- The input that a reader wanted when it rejected a file.

-- a reader can want this input for this cause: each cause allows one kind of input, which is `Nothing` if the
-- cause says everything. A wanted number replaces a word that does not write one, and a wanted program replaces
-- one that the verifier rejects for the cause's reason
abbrev pub IsWantedFor : Cause → Wish → Type 0
IsWantedFor Line (Lines names) = Unit {0}
IsWantedFor NoNumber (Number word least most quantity) = within least most (number_of word) ≡ Err NoNumber
IsWantedFor Key (Digits bytes) = Unit {0}
IsWantedFor Hex (Digits bytes) = Unit {0}
IsWantedFor OneLane (SecondLane first) = Unit {0}
IsWantedFor Order (Step least steps) = Unit {0}
IsWantedFor TooMuchWork (Work points steps) = Unit {0}
IsWantedFor (Road Length) (Cells first) = Unit {0}
IsWantedFor (Road (SpeedAboveLimit lane place)) (Speed limit) = Unit {0}
IsWantedFor (Verdict reason) (Program code at) = (kind : Kind) × IsRefused kind code at reason
IsWantedFor TooMany Nothing = Unit {0}
IsWantedFor TooBig Nothing = Unit {0}
IsWantedFor (InProgram why) Nothing = Unit {0}
IsWantedFor (Code fault) Nothing = Unit {0}
IsWantedFor (Road Length) Nothing = ⊥
IsWantedFor (Road (SpeedAboveLimit lane place)) Nothing = ⊥
IsWantedFor (Road fault) Nothing = Unit {0}
IsWantedFor StandardRefused Nothing = Unit {0}
IsWantedFor cause wanted = ⊥

-- a reader can want this input at a fault of a text; `Nothing` if an allocation failed
abbrev pub IsWanted : TextFault → Wish → Type 0
IsWanted (At number cause) wanted = IsWantedFor cause wanted
IsWanted Memory wanted = wanted ≡ Nothing
