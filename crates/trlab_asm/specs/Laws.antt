-- Laws of program texts.
use Rattle.std.specs.Prelude.{◌≡◌, ◌≢◌, ◌↔◌, ℕ, List, Some, Ok, MatchResult}
use Rattle.trlab_code.specs.declared.{program.Kind.Kind, instruction.{Register.Register, Input.Input}}
use Rattle.trlab_code.specs.{Program.{Program, IsValidProgram}, Laws.IsRepresentable}
use Rattle.trlab_lines.specs.Lines.{lines_of}
use Rattle.trlab_asm.specs.Names.{register_text, input_text, mnemonic_text, register_named, input_named}
use Rattle.trlab_asm.specs.{Names.mnemonic_named, Assembly.code_of, Canonical.canonical_text}
use Rattle.trlab_asm.specs.declared.{names.Mnemonic.Mnemonic, fault.Why.TheVariants.Memory}

-- the lines of any text, read as a program of any kind, give a valid program or a first fault, which is never
-- `Memory`
abbrev pub TextsHaveMeaning : Type 0
TextsHaveMeaning = (kind : Kind) (text : List ℕ)
    → MatchResult (code_of kind (lines_of text)) IsValidProgram (λ fault. fault.why ≢ Memory)

-- reading the lines of the canonical text of a representable program gives this program again
abbrev pub CanonicalTextGivesProgram : Type 0
CanonicalTextGivesProgram = (program : Program) → IsRepresentable program
    → code_of program.kind (lines_of (canonical_text program.instrs)) ≡ Ok program

-- two representable programs of one kind with the same canonical text are equal
abbrev pub TextDeterminesProgram : Type 0
TextDeterminesProgram = (first second : Program) → IsRepresentable first → IsRepresentable second
    → first.kind ≡ second.kind → canonical_text first.instrs ≡ canonical_text second.instrs → first ≡ second

-- a word is read as a register exactly if it is the name that is printed for this register
abbrev pub RegistersAreNamed : Type 0
RegistersAreNamed = (word : List ℕ) (register : Register)
    → register_named word ≡ Some register ↔ (word ≡ register_text register)

-- a word is read as an input exactly if it is the name that is printed for this input
abbrev pub InputsAreNamed : Type 0
InputsAreNamed = (word : List ℕ) (input : Input)
    → input_named word ≡ Some input ↔ (word ≡ input_text input)

-- a word is read as the name of an instruction exactly if it is printed for this instruction
abbrev pub InstructionsAreNamed : Type 0
InstructionsAreNamed = (word : List ℕ) (name : Mnemonic)
    → mnemonic_named word ≡ Some name ↔ (word ≡ mnemonic_text name)
