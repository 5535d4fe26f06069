-- The names of registers, inputs and instructions: one table each, for reading and for printing.
use Rattle.std.specs.Prelude.{ℕ, List, codes, bytes_eq, Option, find}
use Rattle.trlab_code.specs.declared.instruction.Register.{Register, TheVariants.{R0, R1, R2, R3, R4, R5, R6}}
use Rattle.trlab_code.specs.declared.instruction.{Register.TheVariants.R7, Input.{Input, TheVariants.Speed}}
use Rattle.trlab_code.specs.declared.instruction.Input.TheVariants.{Limit, Gap, SideGap, SideBack, Lane}
use Rattle.trlab_code.specs.declared.instruction.Input.TheVariants.{Headspeed}
use Rattle.trlab_asm.specs.declared.names.Mnemonic.{Mnemonic, TheVariants.{Num, Get, Side, Draw, Copy, Add}}
use Rattle.trlab_asm.specs.declared.names.Mnemonic.TheVariants.{Sub, Mul, Div, Min, Max, Not, And, Or, Jump}
use Rattle.trlab_asm.specs.declared.names.Mnemonic.TheVariants.{JumpLess, JumpAtMost, JumpTrue, JumpFalse, Go}
use Rattle.trlab_asm.specs.declared.names.{Mnemonic.TheVariants.{Cross, Stay}, TheConstants.REGISTERS}
use Rattle.trlab_asm.specs.declared.names.TheConstants.{INPUTS, MNEMONICS}

-- the name of a register: `r0` to `r7`
abbrev pub register_text : Register → List ℕ
register_text R0 = codes "r0"
register_text R1 = codes "r1"
register_text R2 = codes "r2"
register_text R3 = codes "r3"
register_text R4 = codes "r4"
register_text R5 = codes "r5"
register_text R6 = codes "r6"
register_text R7 = codes "r7"

-- the name of an input, for example `sidegap`
abbrev pub input_text : Input → List ℕ
input_text Speed = codes "speed"
input_text Limit = codes "limit"
input_text Gap = codes "gap"
input_text SideGap = codes "sidegap"
input_text SideBack = codes "sideback"
input_text Lane = codes "lane"
input_text Headspeed = codes "headspeed"

-- the name of an instruction: `add` for `Add`, but `jlt`, `jle`, `jtrue` and `jfalse` for conditional jumps
abbrev pub mnemonic_text : Mnemonic → List ℕ
mnemonic_text Num = codes "num"
mnemonic_text Get = codes "get"
mnemonic_text Side = codes "side"
mnemonic_text Draw = codes "draw"
mnemonic_text Copy = codes "copy"
mnemonic_text Add = codes "add"
mnemonic_text Sub = codes "sub"
mnemonic_text Mul = codes "mul"
mnemonic_text Div = codes "div"
mnemonic_text Min = codes "min"
mnemonic_text Max = codes "max"
mnemonic_text Not = codes "not"
mnemonic_text And = codes "and"
mnemonic_text Or = codes "or"
mnemonic_text Jump = codes "jump"
mnemonic_text JumpLess = codes "jlt"
mnemonic_text JumpAtMost = codes "jle"
mnemonic_text JumpTrue = codes "jtrue"
mnemonic_text JumpFalse = codes "jfalse"
mnemonic_text Go = codes "go"
mnemonic_text Cross = codes "cross"
mnemonic_text Stay = codes "stay"

-- the register whose name is this word; `None` if there is none
abbrev pub register_named : List ℕ → Option Register
register_named word = find (λ register. bytes_eq (register_text register) word) REGISTERS

-- the input whose name is this word; `None` if there is none
abbrev pub input_named : List ℕ → Option Input
input_named word = find (λ input. bytes_eq (input_text input) word) INPUTS

-- the instruction whose name is this word; `None` if there is none
abbrev pub mnemonic_named : List ℕ → Option Mnemonic
mnemonic_named word = find (λ name. bytes_eq (mnemonic_text name) word) MNEMONICS
