-- Any bytes spell a program, or have a first fault.
use Rattle.std.proofs.Common.{◌≡◌, ◌≢◌, ℕ, zero, suc, ◌+◌, ◌-◌, ◌*◌, ◌/◌, ◌%◌, ◌^◌, ◌<◌, ◌≤◌, ◌⊎◌, List, []}
use Rattle.std.proofs.Common.{◌∷◌, ◌++◌, length, take, drop, get_or, slice_index, All, Result, Ok, Err, refl}
use Rattle.std.proofs.Common.{ap, ◌∙◌, arith, inl, inr, length-append, bytes_eq, flat_map}
use Rattle.std.proofs.lemmas.{Bool.{cases_Bool, cases_lt, Decides.eqb_tells}, Slice.Eq.bytes_eq-Decides}
use Rattle.std.proofs.lemmas.List.Elements.{All-push}
use Rattle.trlab_code.specs.{declared.program.Kind.Kind, Encoding.{kind_byte, header, instr_bytes, encoding}}
use Rattle.trlab_code.specs.declared.{program.Kind.TheVariants.{Motion, Change}, fault.CodeFault.CodeFault}
use Rattle.trlab_code.specs.declared.instruction.{Register.Register, Input.TheVariants.{Lane, Headspeed}}
use Rattle.trlab_code.specs.declared.instruction.Register.TheVariants.{R0, R1, R2, R3, R4, R5, R6, R7}
use Rattle.trlab_code.specs.declared.instruction.{Input.Input, Instr.{Instr, TheVariants.{Go, Cross, Stay}}}
use Rattle.trlab_code.specs.declared.instruction.Input.TheVariants.{Speed, Limit, Gap, SideGap, SideBack}
use Rattle.trlab_code.specs.declared.instruction.Instr.TheVariants.{Num, Get, Side, Draw, Copy, Add, Sub, Mul}
use Rattle.trlab_code.specs.declared.instruction.Instr.TheVariants.{Div, Min, Max, Not, And, Or, Jump}
use Rattle.trlab_code.specs.declared.instruction.Instr.TheVariants.{JumpLess, JumpAtMost, JumpTrue, JumpFalse}
use Rattle.trlab_code.specs.Program.{Program, IsInRange, IsValidProgram, VersionAllows, reads_headspeed}
use Rattle.trlab_code.{specs.{Program.version_of, Laws.BytesMean}, proofs.Opcodes.opcode_or_not}
use Rattle.trlab_code.{specs.Machine.{register_number, input_number}, proofs.Whole.spelling_of_parts}
use Rattle.trlab_code.specs.Faults.{HasRoom, HasVersion, EncodesSomeInstr, HasValidHeader, IsValidBefore}
use Rattle.trlab_code.specs.Faults.{VersionIsNeeded, IsFirstCodeFault, stated_count, stated_version, row_at}
use Rattle.trlab_code.proofs.{Rows.{rows_more, good_more}, Versions.{needless, needs_version, version_needed}}
use Rattle.trlab_code.specs.declared.fault.CodeFault.TheVariants as fault
use Rattle.trlab_bounds.specs.declared.programs.TheConstants.{MAGIC, CERTAIN}

-- the register of a byte; any register if the byte is not a register's
register_of : ℕ → Register
register_of byte = get_or (R0 ∷ R1 ∷ R2 ∷ R3 ∷ R4 ∷ R5 ∷ R6 ∷ R7 ∷ []) byte R0

register_back : (r : Register) → register_of (register_number r) ≡ r
unfolding register_of
register_back R0 = refl
register_back R1 = refl
register_back R2 = refl
register_back R3 = refl
register_back R4 = refl
register_back R5 = refl
register_back R6 = refl
register_back R7 = refl

-- the input of a byte; any input if the byte is not an input's
input_of : ℕ → Input
input_of byte = get_or (Speed ∷ Limit ∷ Gap ∷ SideGap ∷ SideBack ∷ Lane ∷ Headspeed ∷ []) byte Speed

input_back : (k : Input) → input_of (input_number k) ≡ k
unfolding input_of
input_back Speed = refl
input_back Limit = refl
input_back Gap = refl
input_back SideGap = refl
input_back SideBack = refl
input_back Lane = refl
input_back Headspeed = refl

-- the number of four bytes
number_of : ℕ → ℕ → ℕ → ℕ → ℕ
number_of low second third high = low + 256 * second + 65536 * third + 16777216 * high

number_back : (n : ℕ) → number_of (n % 256) (n / 256 % 256) (n / 256 ^ 2 % 256) (n / 256 ^ 3) ≡ n
unfolding number_of
number_back n = omega arith

-- the only instruction that eight bytes can spell
candidate : List ℕ → Instr
candidate row =
    let x = register_of (slice_index row 1) in
    let y = register_of (slice_index row 2) in
    let z = register_of (slice_index row 3) in
    let n = number_of (slice_index row 4) (slice_index row 5) (slice_index row 6) (slice_index row 7) in
    get_or ((Num x n) ∷ (Get x (input_of (slice_index row 2))) ∷ (Side x) ∷ (Draw x (slice_index row 2) n) ∷ (Copy x y) ∷ (Add x y z) ∷ (Sub x y z) ∷ (Mul x y n) ∷ (Div x y n) ∷ (Min x y z) ∷ (Max x y z) ∷ (Not x y) ∷ (And x y z) ∷ (Or x y z) ∷ (Jump n) ∷ (JumpLess x y n) ∷ (JumpAtMost x y n) ∷ (JumpTrue x n) ∷ (JumpFalse x n) ∷ (Go x) ∷ Cross ∷ Stay ∷ []) (slice_index row 0 - 1) Stay

only_candidate : (i : Instr) → candidate (instr_bytes i) ≡ i
unfolding candidate
only_candidate (Num d n) = cc (register_back d, number_back n)
only_candidate (Get d k) = cc (register_back d, input_back k)
only_candidate (Side d) = cc (register_back d)
only_candidate (Draw d k t) = cc (register_back d, number_back t)
only_candidate (Copy d a) = cc (register_back d, register_back a)
only_candidate (Add d a b) = cc (register_back d, register_back a, register_back b)
only_candidate (Sub d a b) = cc (register_back d, register_back a, register_back b)
only_candidate (Mul d a n) = cc (register_back d, register_back a, number_back n)
only_candidate (Div d a n) = cc (register_back d, register_back a, number_back n)
only_candidate (Min d a b) = cc (register_back d, register_back a, register_back b)
only_candidate (Max d a b) = cc (register_back d, register_back a, register_back b)
only_candidate (Not d a) = cc (register_back d, register_back a)
only_candidate (And d a b) = cc (register_back d, register_back a, register_back b)
only_candidate (Or d a b) = cc (register_back d, register_back a, register_back b)
only_candidate (Jump t) = cc (number_back t)
only_candidate (JumpLess a b t) = cc (register_back a, register_back b, number_back t)
only_candidate (JumpAtMost a b t) = cc (register_back a, register_back b, number_back t)
only_candidate (JumpTrue a t) = cc (register_back a, number_back t)
only_candidate (JumpFalse a t) = cc (register_back a, number_back t)
only_candidate (Go a) = cc (register_back a)
only_candidate Cross = refl
only_candidate Stay = refl

in_range_or_not : (i : Instr) → IsInRange i ⊎ (¬ (IsInRange i))
in_range_or_not (Num d n) = inl tt
in_range_or_not (Get d k) = inl tt
in_range_or_not (Side d) = inl tt
in_range_or_not (Draw d k t) = elim (cases_lt k 16) [
  | inl low ↦ elim (cases_lt CERTAIN t) [ inl above ↦ inr (λ h. let e = h.1 in absurd (omega arith)) | inr within ↦ inl (low, within) ]
  | inr high ↦ inr (λ h. let e = h.0 in absurd (omega arith))
]
in_range_or_not (Copy d a) = inl tt
in_range_or_not (Add d a b) = inl tt
in_range_or_not (Sub d a b) = inl tt
in_range_or_not (Mul d a n) = inl tt
in_range_or_not (Div d a n) = elim (cases_lt n 1) [ inl low ↦ inr (λ h. absurd (omega arith)) | inr above ↦ inl above ]
in_range_or_not (Min d a b) = inl tt
in_range_or_not (Max d a b) = inl tt
in_range_or_not (Not d a) = inl tt
in_range_or_not (And d a b) = inl tt
in_range_or_not (Or d a b) = inl tt
in_range_or_not (Jump t) = inl tt
in_range_or_not (JumpLess a b t) = inl tt
in_range_or_not (JumpAtMost a b t) = inl tt
in_range_or_not (JumpTrue a t) = inl tt
in_range_or_not (JumpFalse a t) = inl tt
in_range_or_not (Go a) = inl tt
in_range_or_not Cross = inl tt
in_range_or_not Stay = inl tt

of_version_or_not : (version : ℕ) (i : Instr) → VersionAllows version i ⊎ (¬ (VersionAllows version i))
of_version_or_not version i =
    elim (eqb_tells version 2) [
      | inl is ↦ inl (λ reads. is.1)
      | inr other ↦ elim (cases_Bool (reads_headspeed i)) [ inl reads ↦ inr (λ h. other.1 (h reads)) | inr plain ↦ inl (λ reads. absurd cc) ]
    ]

spells_or_not : (version : ℕ) (row : List ℕ) → EncodesSomeInstr version row ⊎ (¬ (EncodesSomeInstr version row))
spells_or_not version row =
    let i = candidate row in
    let same : (j : Instr) → row ≡ instr_bytes j → i ≡ j = λ j e. ap candidate e ∙ only_candidate j in
    elim (cases_Bool (bytes_eq row (instr_bytes i))) [
      | inl same_bytes ↦ elim (in_range_or_not i) [
        | inl fits ↦ elim (of_version_or_not version i) [
          | inl has ↦ inl (i, ((bytes_eq-Decides row (instr_bytes i)).0 same_bytes, fits, has))
          | inr not ↦ inr (λ h. let e = same h.0 h.1.0 in not (rw e h.1.2))
        ]
        | inr not ↦ inr (λ h. let e = same h.0 h.1.0 in not (rw e h.1.1))
      ]
      | inr other ↦ inr (λ h. let e = same h.0 h.1.0 in let f : row ≡ instr_bytes i = rw e h.1.0 in let t = (bytes_eq-Decides row (instr_bytes i)).1 f in cc)
    ]

-- some fault of the bytes is the first one, and it is not a failed allocation
abbrev Faulty : List ℕ → Type 0
Faulty bytes = (f : CodeFault) × (IsFirstCodeFault bytes f × (f ≢ fault.Memory))

-- the rows before pc spell instructions, or one of them is the first fault
rows_or_fault : (bytes : List ℕ) → HasValidHeader bytes → HasRoom bytes → (pc : ℕ) → pc ≤ stated_count bytes → IsValidBefore bytes pc ⊎ Faulty bytes
rows_or_fault bytes head room zero h = inl (record { header = head; room = room; rows = λ k below. absurd (omega arith) })
rows_or_fault bytes head room (suc pc) h =
    elim (rows_or_fault bytes head room pc (omega arith)) [
      | inl good ↦ elim (spells_or_not (stated_version bytes) (row_at bytes pc)) [
        | inl row ↦ let next : pc + 1 ≡ suc pc = omega arith in inl (rw (← next) (good_more bytes pc row.0 good row.1))
        | inr not ↦ elim (opcode_or_not (slice_index (row_at bytes pc) 0)) [
          | inl opcode ↦ inr (fault.Field pc, ((omega arith, good, (opcode, not)), λ e. cc))
          | inr none ↦ inr (fault.Opcode pc, ((omega arith, good, none), λ e. cc))
        ]
      ]
      | inr other ↦ inr other
    ]

-- the instructions that the rows before pc spell
record Rows (bytes : List ℕ) (pc : ℕ) : Type 0 where
  instrs : List Instr
  many : length instrs ≡ pc
  fit : All IsInRange instrs
  spelt : flat_map instr_bytes instrs ≡ take (8 * pc) (drop 8 bytes)

rows_of : (bytes : List ℕ) (pc : ℕ) → IsValidBefore bytes pc → Rows bytes pc
rows_of bytes zero good = record { instrs = []; many = refl; fit = λ k d h. absurd (omega arith); spelt = refl }
rows_of bytes (suc pc) good =
    let before = rows_of bytes pc (record { header = good.header; room = good.room; rows = λ k h. good.rows k (omega arith) }) in
    let row = good.rows pc (omega arith) in
    let next : pc + 1 ≡ suc pc = omega arith in
    record {
      instrs = before.instrs ++ row.0 ∷ [];
      many = omega (arith, before.many, length-append before.instrs (row.0 ∷ []));
      fit = All-push IsInRange before.instrs row.0 before.fit row.1.1;
      spelt = rw (← next) (rows_more bytes before.instrs pc row.0 before.spelt row.1.0);
    }

-- the first eight bytes are a header
header_of : (bytes : List ℕ) (kind : Kind) → All (λ byte. byte < 2 ^ 8) bytes → HasValidHeader bytes → slice_index bytes 5 ≡ kind_byte kind → take 8 bytes ≡ header (stated_version bytes) kind (stated_count bytes)
header_of (t ∷ r ∷ l ∷ b ∷ v ∷ k ∷ low ∷ high ∷ rest) kind small good is =
    let byte : low < 256 = small 6 0 (omega arith) in
    let lower : low ≡ (low + 256 * high) % 256 = omega arith in
    let upper : high ≡ (low + 256 * high) / 256 = omega arith in
    let magic = good.magic in
    cc
header_of _ kind small good is = let whole = good.whole in absurd (omega arith)

no_kind : (byte : ℕ) → byte ≢ 0 → byte ≢ 1 → (kind : Kind) × (byte ≡ kind_byte kind) → ⊥
no_kind byte not_0 not_1 (Motion, e) = not_0 e
no_kind byte not_0 not_1 (Change, e) = not_1 e

kind_or_not : (byte : ℕ) → ((kind : Kind) × (byte ≡ kind_byte kind)) ⊎ (¬ ((kind : Kind) × (byte ≡ kind_byte kind)))
kind_or_not byte =
    elim (eqb_tells byte 0) [
      | inl is ↦ inl (Motion, is.1)
      | inr not ↦ elim (eqb_tells byte 1) [ inl is ↦ inl (Change, is.1) | inr more ↦ inr (no_kind byte not.1 more.1) ]
    ]

version_or_not : (bytes : List ℕ) → HasVersion bytes ⊎ (¬ (HasVersion bytes))
version_or_not bytes =
    elim (eqb_tells (stated_version bytes) 1) [
      | inl is ↦ inl (inl is.1)
      | inr not ↦ elim (eqb_tells (stated_version bytes) 2) [
        | inl is ↦ inl (inr is.1)
        | inr more ↦ inr (λ h. elim h [ inl e ↦ not.1 e | inr e ↦ more.1 e ])
      ]
    ]

header_or_fault : (bytes : List ℕ) → HasValidHeader bytes ⊎ Faulty bytes
header_or_fault bytes =
    elim (cases_lt (length bytes) 8) [
      | inl short ↦ inr (fault.Short, (inl (λ h. absurd (omega arith)), λ e. cc))
      | inr whole ↦ elim (cases_Bool (bytes_eq (take 4 bytes) MAGIC)) [
        | inr other ↦ inr (fault.Magic, ((whole, λ h. let t = (bytes_eq-Decides (take 4 bytes) MAGIC).1 h in cc), λ e. cc))
        | inl same ↦ let magic = (bytes_eq-Decides (take 4 bytes) MAGIC).0 same in elim (version_or_not bytes) [
          | inr other ↦ inr (fault.Version, ((whole, magic, other), λ e. cc))
          | inl version ↦ elim (kind_or_not (slice_index bytes 5)) [
            | inr other ↦ inr (fault.Kind, ((whole, magic, (version, other)), λ e. cc))
            | inl kind ↦ elim (cases_lt (stated_count bytes) 1) [
              | inl none ↦ inr (fault.Count, ((whole, magic, (version, kind, λ h. let e = h.0 in absurd (omega arith))), λ e. cc))
              | inr some ↦ elim (cases_lt 128 (stated_count bytes)) [
                | inl many ↦ inr (fault.Count, ((whole, magic, (version, kind, λ h. let e = h.1 in absurd (omega arith))), λ e. cc))
                | inr few ↦ inl (record { whole = whole; magic = magic; version = version; kind = kind; count = (some, few) })
              ]
            ]
          ]
        ]
      ]
    ]

-- whether the instructions need the version that is stated
needs_or_not : (bytes : List ℕ) → IsValidBefore bytes (stated_count bytes) → VersionIsNeeded bytes ⊎ (¬ (VersionIsNeeded bytes))
needs_or_not bytes good =
    let rows = rows_of bytes (stated_count bytes) good in
    let program : Program = record { kind = good.header.kind.0; instrs = rows.instrs } in
    elim (eqb_tells (version_of program) (stated_version bytes)) [
      | inl same ↦ inl (needs_version bytes program rows.many rows.spelt same.1)
      | inr other ↦ inr (needless bytes program rows.many rows.spelt good other.1)
    ]

-- the program of bytes with a valid header and valid rows, of a version that they need
spelt : (bytes : List ℕ) → All (λ byte. byte < 2 ^ 8) bytes → IsValidBefore bytes (stated_count bytes) → VersionIsNeeded bytes → length bytes ≤ 8 + 8 * stated_count bytes → (program : Program) × ((bytes ≡ encoding program) × IsValidProgram program)
spelt bytes small good needs short =
    let kind = good.header.kind in
    let rows = rows_of bytes (stated_count bytes) good in
    let program : Program = record { kind = kind.0; instrs = rows.instrs } in
    let count = good.header.count in (
      program,
      (
        spelling_of_parts bytes program (stated_version bytes) (stated_count bytes) (version_needed bytes program rows.many rows.spelt good needs) rows.many (header_of bytes kind.0 small good.header kind.1) rows.spelt short,
        record { some = omega (arith, rows.many, count.0); few = omega (arith, rows.many, count.1); in_range = rows.fit },
      ),
    )

-- all bytes are a program or have a first fault
pub something : (bytes : List ℕ) → All (λ byte. byte < 2 ^ 8) bytes → (said : Result Program CodeFault) × BytesMean bytes said
something bytes small =
    elim (header_or_fault bytes) [
      | inr other ↦ (Err other.0, other.1)
      | inl head ↦ elim (cases_lt (length bytes) (8 + 8 * stated_count bytes)) [
        | inl short ↦ (Err fault.Short, (inr (head, λ h. absurd (omega arith)), λ e. cc))
        | inr room ↦ elim (rows_or_fault bytes head room (stated_count bytes) (omega arith)) [
          | inr other ↦ (Err other.0, other.1)
          | inl good ↦ elim (needs_or_not bytes good) [
            | inr none ↦ (Err fault.NeedlessVersion, ((good, none), λ e. cc))
            | inl needs ↦ elim (cases_lt (8 + 8 * stated_count bytes) (length bytes)) [
              | inl long ↦ (Err fault.Trailing, ((good, (needs, long)), λ e. cc))
              | inr other ↦ let found = spelt bytes small good needs other in (Ok found.0, found.1)
            ]
          ]
        ]
      ]
    ]
