-- The encoding of a program in bytes: a header, and then eight bytes for each instruction.
use Rattle.std.specs.Prelude.{◌≡◌, ℕ, ◌/◌, ◌%◌, ◌^◌, List, [], ◌∷◌, ◌++◌, length, flat_map}
use Rattle.trlab_code.specs.declared.program.Kind.{Kind, TheVariants.{Motion, Change}}
use Rattle.trlab_code.specs.declared.instruction.Instr.{Instr, TheVariants.{Num, Get, Side, Draw, Copy, Add}}
use Rattle.trlab_code.specs.declared.instruction.Instr.TheVariants.{Sub, Mul, Div, Min, Max, Not, And, Or}
use Rattle.trlab_code.specs.declared.instruction.Instr.TheVariants.{Jump, JumpLess, JumpAtMost, JumpTrue}
use Rattle.trlab_code.specs.declared.instruction.Instr.TheVariants.{JumpFalse, Go, Cross, Stay}
use Rattle.trlab_code.specs.{declared.row.InstructionRow.InstructionRow, Program.{Program, IsInRange}}
use Rattle.trlab_code.specs.{Program.{VersionAllows, version_of}, Machine.{register_number, input_number}}
use Rattle.trlab_bounds.specs.declared.programs.TheConstants.{MAGIC}

-- the byte of a program kind: 0 for a motion, 1 for a change
abbrev pub kind_byte : Kind → ℕ
kind_byte Motion = 0
kind_byte Change = 1

-- the row of an instruction: its opcode, three one-byte fields a, b and c, and a number of four bytes
abbrev pub row : ℕ → ℕ → ℕ → ℕ → ℕ → InstructionRow
row opcode a b c number = record { opcode = opcode; a = a; b = b; c = c; number = number }

-- the row of each instruction, with 0 for the fields that it does not have; a register or an input is encoded
-- as its number, and the last field has a constant, the chance of a draw or the target of a jump
abbrev pub row_of : Instr → InstructionRow
row_of (Num d n) = row 0x01 (register_number d) 0 0 n
row_of (Get d k) = row 0x02 (register_number d) (input_number k) 0 0
row_of (Side d) = row 0x03 (register_number d) 0 0 0
row_of (Draw d k t) = row 0x04 (register_number d) k 0 t
row_of (Copy d a) = row 0x05 (register_number d) (register_number a) 0 0
row_of (Add d a b) = row 0x06 (register_number d) (register_number a) (register_number b) 0
row_of (Sub d a b) = row 0x07 (register_number d) (register_number a) (register_number b) 0
row_of (Mul d a n) = row 0x08 (register_number d) (register_number a) 0 n
row_of (Div d a n) = row 0x09 (register_number d) (register_number a) 0 n
row_of (Min d a b) = row 0x0a (register_number d) (register_number a) (register_number b) 0
row_of (Max d a b) = row 0x0b (register_number d) (register_number a) (register_number b) 0
row_of (Not d a) = row 0x0c (register_number d) (register_number a) 0 0
row_of (And d a b) = row 0x0d (register_number d) (register_number a) (register_number b) 0
row_of (Or d a b) = row 0x0e (register_number d) (register_number a) (register_number b) 0
row_of (Jump t) = row 0x0f 0 0 0 t
row_of (JumpLess a b t) = row 0x10 (register_number a) (register_number b) 0 t
row_of (JumpAtMost a b t) = row 0x11 (register_number a) (register_number b) 0 t
row_of (JumpTrue a t) = row 0x12 (register_number a) 0 0 t
row_of (JumpFalse a t) = row 0x13 (register_number a) 0 0 t
row_of (Go a) = row 0x14 (register_number a) 0 0 0
row_of Cross = row 0x15 0 0 0 0
row_of Stay = row 0x16 0 0 0 0

-- the two bytes of a count below 2 ^ 16, the lower first; for example, 300 has the bytes 44 and 1
abbrev pub count_bytes : ℕ → List ℕ
count_bytes n = n % 256 ∷ n / 256 ∷ []

-- the four bytes of a number below 2 ^ 32, the lowest first; for example, 300 has the bytes 44, 1, 0 and 0
abbrev pub number_bytes : ℕ → List ℕ
number_bytes n = n % 256 ∷ n / 256 % 256 ∷ n / 256 ^ 2 % 256 ∷ n / 256 ^ 3 ∷ []

-- the eight bytes of a row: the opcode, the three fields and the four bytes of the number
abbrev pub row_bytes : InstructionRow → List ℕ
row_bytes fields = fields.opcode ∷ fields.a ∷ fields.b ∷ fields.c ∷ number_bytes fields.number

-- the eight bytes of an instruction's row
abbrev pub instr_bytes : Instr → List ℕ
instr_bytes instr = row_bytes (row_of instr)

-- the eight bytes of a header: `TRLB`, the version, the kind and the number of instructions
abbrev pub header : ℕ → Kind → ℕ → List ℕ
header version kind count = MAGIC ++ version ∷ kind_byte kind ∷ count_bytes count

-- the encoding of a program: its header, and the eight bytes of each instruction in order
unfoldable pub encoding : Program → List ℕ
encoding program =
    header (version_of program) program.kind (length program.instrs) ++ flat_map instr_bytes program.instrs

-- the bytes encode the instruction, its fields are in range, and this version allows it
abbrev pub EncodesInstr : ℕ → Instr → List ℕ → Type 0
EncodesInstr version instr bytes =
    (bytes ≡ instr_bytes instr) × IsInRange instr × VersionAllows version instr

-- the byte is the opcode of some instruction, 0x01 to 0x16
abbrev pub IsOpcode : ℕ → Type 0
IsOpcode byte = (instr : Instr) × (byte ≡ (row_of instr).opcode)
