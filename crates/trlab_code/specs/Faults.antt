-- The first fault of bytes that do not encode a program, in the order in which a reader meets the faults.
use Rattle.std.specs.Prelude.{◌≡◌, ℕ, ◌+◌, ◌*◌, ◌<◌, ◌≤◌, List, length, take, drop, slice_index, ◌⊎◌, IsTrue}
use Rattle.trlab_code.specs.declared.{program.Kind.Kind, instruction.Instr.Instr, fault.CodeFault.CodeFault}
use Rattle.trlab_code.specs.Program.{reads_headspeed}
use Rattle.trlab_code.specs.Encoding.{kind_byte, instr_bytes, EncodesInstr, IsOpcode}
use Rattle.trlab_code.specs.declared.fault.CodeFault.TheVariants as fault
use Rattle.trlab_bounds.specs.declared.programs.TheConstants.{MAGIC, PLAIN_VERSION, HEADSPEED_VERSION}
use Rattle.trlab_bounds.specs.declared.programs.TheConstants.{HEADER_BYTES, INSTR_BYTES, MAX_INSTRUCTIONS}

-- the version that a header states: byte 4
abbrev pub stated_version : List ℕ → ℕ
stated_version bytes = slice_index bytes 4

-- the number of instructions that a header states: bytes 6 and 7, the lower first; for example, 300 if byte 6
-- is 44 and byte 7 is 1
abbrev pub stated_count : List ℕ → ℕ
stated_count bytes = slice_index bytes 6 + 256 * slice_index bytes 7

-- row pc of the bytes, in which instruction pc is encoded: the INSTR_BYTES bytes after the header and pc
-- rows; fewer if the bytes end there
abbrev pub row_at : List ℕ → ℕ → List ℕ
row_at bytes pc = take INSTR_BYTES (drop (HEADER_BYTES + INSTR_BYTES * pc) bytes)

-- the bytes are long enough for a header
abbrev pub HasHeader : List ℕ → Type 0
HasHeader bytes = HEADER_BYTES ≤ length bytes

-- the bytes begin with MAGIC, the four characters `TRLB` with which every encoding begins
abbrev pub HasMagic : List ℕ → Type 0
HasMagic bytes = take 4 bytes ≡ MAGIC

-- the header states a known version: PLAIN_VERSION or HEADSPEED_VERSION
abbrev pub HasVersion : List ℕ → Type 0
HasVersion bytes = (stated_version bytes ≡ PLAIN_VERSION) ⊎ (stated_version bytes ≡ HEADSPEED_VERSION)

-- byte 5 of the header is the byte of a program kind, motion or change
abbrev pub HasKind : List ℕ → Type 0
HasKind bytes = (kind : Kind) × (slice_index bytes 5 ≡ kind_byte kind)

-- the header states 1 to MAX_INSTRUCTIONS instructions
abbrev pub HasCount : List ℕ → Type 0
HasCount bytes = (1 ≤ stated_count bytes) × (stated_count bytes ≤ MAX_INSTRUCTIONS)

-- the bytes are long enough for the header and for all stated instructions
abbrev pub HasRoom : List ℕ → Type 0
HasRoom bytes = HEADER_BYTES + INSTR_BYTES * stated_count bytes ≤ length bytes

-- the first byte of an instruction's row is the opcode of some instruction
abbrev pub HasOpcode : List ℕ → Type 0
HasOpcode row = IsOpcode (slice_index row 0)

-- the bytes of a row encode an instruction, with fields in range, that this version allows
abbrev pub EncodesSomeInstr : ℕ → List ℕ → Type 0
EncodesSomeInstr version row = (instr : Instr) × EncodesInstr version instr row

-- the bytes begin with a valid header: MAGIC, a known version, a kind, and an allowed number of instructions
pub record HasValidHeader (bytes : List ℕ) : Type 0 where
  pub whole : HasHeader bytes
  pub magic : HasMagic bytes
  pub version : HasVersion bytes
  pub kind : HasKind bytes
  pub count : HasCount bytes

-- the header is valid, the bytes are long enough for all stated instructions, and those before pc are valid
pub record IsValidBefore (bytes : List ℕ) (pc : ℕ) : Type 0 where
  pub header : HasValidHeader bytes
  pub room : HasRoom bytes
  pub rows : (k : ℕ) → k < pc → EncodesSomeInstr (stated_version bytes) (row_at bytes k)

-- the bytes are too short for a header, or have a valid header but are too short for the stated instructions
abbrev pub EndsEarly : List ℕ → Type 0
EndsEarly bytes = (¬ (HasHeader bytes)) ⊎ (HasValidHeader bytes × ¬ (HasRoom bytes))

-- the bytes are long enough for a header, they begin with MAGIC, and the given claim is true
abbrev pub PassesMagic : List ℕ → Type 0 → Type 0
PassesMagic bytes claim = HasHeader bytes × HasMagic bytes × claim

-- the bytes are long enough for a header, its MAGIC, version and kind are valid, and the given claim is true
abbrev pub PassesKind : List ℕ → Type 0 → Type 0
PassesKind bytes claim = PassesMagic bytes (HasVersion bytes × HasKind bytes × claim)

-- instruction pc is one of the stated instructions, all bytes before it are valid, and its row has the
-- property `IsFaulty`
abbrev pub ReachesInstr : List ℕ → ℕ → (List ℕ → Type 0) → Type 0
ReachesInstr bytes pc IsFaulty =
    (pc < stated_count bytes) × IsValidBefore bytes pc × IsFaulty (row_at bytes pc)

-- one of the stated instructions reads the headspeed
abbrev pub HasHeadspeed : List ℕ → Type 0
HasHeadspeed bytes = (pc : ℕ) × (instr : Instr)
    × (pc < stated_count bytes) × (row_at bytes pc ≡ instr_bytes instr) × IsTrue (reads_headspeed instr)

-- the stated version is needed: PLAIN_VERSION always is, and HEADSPEED_VERSION is if a stated instruction
-- reads the headspeed
abbrev pub VersionIsNeeded : List ℕ → Type 0
VersionIsNeeded bytes = stated_version bytes ≡ HEADSPEED_VERSION → HasHeadspeed bytes

-- there are bytes after the last stated instruction
abbrev pub HasExtraBytes : List ℕ → Type 0
HasExtraBytes bytes = HEADER_BYTES + INSTR_BYTES * stated_count bytes < length bytes

-- the header and all stated instructions are valid, and the given claim is true
abbrev pub PassesInstrs : List ℕ → Type 0 → Type 0
PassesInstrs bytes claim = IsValidBefore bytes (stated_count bytes) × claim

-- the first fault after a valid header: the opcode, or else a field, of the first invalid instruction; then
-- an unneeded HEADSPEED_VERSION; then bytes after the last instruction. `Memory`, a failed allocation, is
-- always possible, and faults of the header never
abbrev pub IsFaultAfterHeader : List ℕ → CodeFault → Type 0
IsFaultAfterHeader bytes (fault.Opcode pc) = ReachesInstr bytes pc (λ row. ¬ (HasOpcode row))
IsFaultAfterHeader bytes (fault.Field pc) =
    ReachesInstr bytes pc (λ row. HasOpcode row × ¬ (EncodesSomeInstr (stated_version bytes) row))
IsFaultAfterHeader bytes fault.NeedlessVersion = PassesInstrs bytes (¬ (VersionIsNeeded bytes))
IsFaultAfterHeader bytes fault.Trailing = PassesInstrs bytes (VersionIsNeeded bytes × HasExtraBytes bytes)
IsFaultAfterHeader bytes fault.Memory = Unit {0}
IsFaultAfterHeader bytes _ = ⊥

-- the first fault of bytes: too short for a header; then a wrong MAGIC, version, kind or number of
-- instructions; then too short for these instructions, which is `Short` too; then a fault after the header
abbrev pub IsFirstCodeFault : List ℕ → CodeFault → Type 0
IsFirstCodeFault bytes fault.Short = EndsEarly bytes
IsFirstCodeFault bytes fault.Magic = HasHeader bytes × ¬ (HasMagic bytes)
IsFirstCodeFault bytes fault.Version = PassesMagic bytes (¬ (HasVersion bytes))
IsFirstCodeFault bytes fault.Kind = PassesMagic bytes (HasVersion bytes × ¬ (HasKind bytes))
IsFirstCodeFault bytes fault.Count = PassesKind bytes (¬ (HasCount bytes))
IsFirstCodeFault bytes fault = IsFaultAfterHeader bytes fault
