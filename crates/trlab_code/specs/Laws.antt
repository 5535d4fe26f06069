-- Laws of bytes and the programs that they encode.
use Rattle.std.specs.Prelude.{◌≡◌, ◌≢◌, ◌↔◌, ℕ, ◌<◌, ◌^◌, List, All, Result, Ok, Err}
use Rattle.trlab_code.specs.{Program.{Program, IsValidProgram}, Encoding.{row_of, encoding}}
use Rattle.trlab_code.specs.{Faults.IsFirstCodeFault, declared.instruction.Instr.Instr}
use Rattle.trlab_code.specs.declared.fault.CodeFault.{CodeFault, TheVariants.Memory}

-- each number in the list is below 2 ^ 8, and so is a byte
abbrev pub AreBytes : List ℕ → Type 0
AreBytes bytes = All (λ byte. byte < 2 ^ 8) bytes

-- the number, the chance or the target of the instruction, if it has one, is below 2 ^ 32
abbrev pub FitsIn32Bits : Instr → Type 0
FitsIn32Bits instr = (row_of instr).number < 2 ^ 32

-- a valid program whose numbers, chances and targets are below 2 ^ 32, as the code keeps them in 32 bits
pub record IsRepresentable (program : Program) : Type 0 where
  pub is_program : IsValidProgram program
  pub has_words : All FitsIn32Bits program.instrs

-- the meaning of bytes: the valid program that they encode, or their first fault, apart from `Memory` (a
-- failed allocation)
abbrev pub BytesMean : List ℕ → Result Program CodeFault → Type 0
BytesMean bytes (Ok program) = (bytes ≡ encoding program) × IsValidProgram program
BytesMean bytes (Err fault) = IsFirstCodeFault bytes fault × (fault ≢ Memory)

-- any bytes have a meaning: a program or a first fault
abbrev pub BytesHaveMeaning : Type 0
BytesHaveMeaning = (bytes : List ℕ)
    → AreBytes bytes → (meaning : Result Program CodeFault) × BytesMean bytes meaning

-- bytes have at most one meaning
abbrev pub BytesHaveOneMeaning : Type 0
BytesHaveOneMeaning = (bytes : List ℕ) (meaning other : Result Program CodeFault)
    → BytesMean bytes meaning → BytesMean bytes other → meaning ≡ other

-- the encoding of a valid program means this program and nothing else
abbrev pub EncodingMeansProgram : Type 0
EncodingMeansProgram = (program : Program) (meaning : Result Program CodeFault)
    → IsValidProgram program → BytesMean (encoding program) meaning ↔ (meaning ≡ Ok program)

-- the encoding of a representable program consists of bytes, which are numbers below 2 ^ 8
abbrev pub EncodingIsBytes : Type 0
EncodingIsBytes = (program : Program) → IsRepresentable program → AreBytes (encoding program)
