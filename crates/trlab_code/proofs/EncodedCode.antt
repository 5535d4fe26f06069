-- Bytes that spell a program have no fault.
use Rattle.std.proofs.Common.{◌≡◌, ◌∙◌, ◌⊎◌, ℕ, Bool, true, false, cond, zero, suc, ◌+◌, ◌*◌, ◌<◌, ◌≤◌, List}
use Rattle.std.proofs.Common.{[], ◌∷◌, length, take, drop, get_or, refl, ap, arith, inl, inr, flat_map}
use Rattle.std.proofs.lemmas.{Bool.cases_Bool, List.Folds.{Any-from_list_any, list_any_at}}
use Rattle.std.specs.List.{list_any}
use Rattle.trlab_code.specs.declared.{instruction.Instr.{Instr, TheVariants.Stay}, fault.CodeFault.CodeFault}
use Rattle.trlab_code.specs.Program.{Program, IsValidProgram, VersionAllows, reads_headspeed}
use Rattle.trlab_code.specs.Encoding.{instr_bytes, encoding}
use Rattle.trlab_code.specs.Faults.{HasValidHeader, IsValidBefore, EncodesSomeInstr, HasOpcode}
use Rattle.trlab_code.specs.Faults.{VersionIsNeeded, IsFirstCodeFault, stated_count, stated_version, row_at}
use Rattle.trlab_code.specs.declared.fault.CodeFault.TheVariants as fault

-- the bytes of instructions, eight for each
length_rows : (instrs : List Instr) → length (flat_map instr_bytes instrs) ≡ 8 * length instrs
length_rows [] = refl
length_rows (i ∷ instrs) = omega (arith, length_rows instrs)

-- the bytes of the k-th instruction
pub row_is : (instrs : List Instr) (k : ℕ) (d : Instr) → k < length instrs → take 8 (drop (8 * k) (flat_map instr_bytes instrs)) ≡ instr_bytes (get_or instrs k d)
row_is [] k d h = absurd (omega arith)
row_is (i ∷ instrs) zero d h = refl
row_is (i ∷ instrs) (suc k) d h = let more : 8 * suc k ≡ suc (suc (suc (suc (suc (suc (suc (suc (8 * k)))))))) = omega arith in rw more (row_is instrs k d (omega arith))

count_is : (program : Program) → stated_count (encoding program) ≡ length program.instrs
unfolding encoding
count_is program = omega arith

length_is : (program : Program) → length (encoding program) ≡ 8 + 8 * length program.instrs
unfolding encoding
length_is program = omega (arith, length_rows program.instrs)

-- one of the two versions
version_is : (b : Bool) → (◌≡◌ {A = ℕ} (cond b 2 1) 1) ⊎ (◌≡◌ {A = ℕ} (cond b 2 1) 2)
version_is true = inr refl
version_is false = inl refl

header_is : (program : Program) → IsValidProgram program → HasValidHeader (encoding program)
unfolding encoding
header_is program is = record {
  whole = omega arith;
  magic = refl;
  version = version_is _;
  kind = (program.kind, refl);
  count = (omega (arith, count_is program, is.some), omega (arith, count_is program, is.few));
}

row_of_spelling : (program : Program) (k : ℕ) (d : Instr) → k < length program.instrs → row_at (encoding program) k ≡ instr_bytes (get_or program.instrs k d)
unfolding encoding
row_of_spelling program k d h =
    let more : 8 + 8 * k ≡ suc (suc (suc (suc (suc (suc (suc (suc (8 * k)))))))) = omega arith in
    rw more (row_is program.instrs k d h)

-- the version covers each instruction
of_version : (program : Program) (k : ℕ) → k < length program.instrs → VersionAllows (stated_version (encoding program)) (get_or program.instrs k Stay)
unfolding encoding
of_version program k h reads = ap (λ (b : Bool). cond b 2 1) (list_any_at reads_headspeed program.instrs k Stay h reads)

row_of_program : (program : Program) → IsValidProgram program → (k : ℕ) → k < length program.instrs → EncodesSomeInstr (stated_version (encoding program)) (row_at (encoding program) k)
row_of_program program is k h =
    (get_or program.instrs k Stay, (row_of_spelling program k Stay h, is.in_range k Stay h, of_version program k h))

-- nothing is wrong in the encoding of a program
pub good_spelling : (program : Program) → IsValidProgram program → (k : ℕ) → k ≤ length program.instrs → IsValidBefore (encoding program) k
good_spelling program is k h = record {
  header = header_is program is;
  room = omega (arith, count_is program, length_is program);
  rows = λ j below. row_of_program program is j (omega arith);
}

good : (program : Program) → IsValidProgram program → IsValidBefore (encoding program) (length program.instrs)
good program is = good_spelling program is (length program.instrs) (omega arith)

-- the second version is for programs with an instruction that reads the speed of the car ahead
reads_in_second : (program : Program) → stated_version (encoding program) ≡ 2 → list_any reads_headspeed program.instrs ≡ true
unfolding encoding
reads_in_second program second = elim (cases_Bool (list_any reads_headspeed program.instrs)) [ inl some ↦ some | inr none ↦ absurd (cc) ]

needs_version : (program : Program) → VersionIsNeeded (encoding program)
needs_version program second =
    let some = Any-from_list_any reads_headspeed program.instrs (reads_in_second program second) in
    (some.0, some.1, omega (arith, count_is program, some.2), row_of_spelling program some.0 some.1 some.2 ∙ ap instr_bytes some.3, some.4)

-- bytes that spell an instruction have its opcode
pub opcode_of_row : (version : ℕ) (row : List ℕ) → EncodesSomeInstr version row → HasOpcode row
opcode_of_row version row h = (h.0, ap (λ bytes. get_or bytes 0 0) h.1.0)

-- bytes that spell a program have no fault, unless an allocation fails
pub no_fault : (program : Program) (f : CodeFault) → IsValidProgram program → IsFirstCodeFault (encoding program) f → f ≡ fault.Memory
no_fault program fault.Short is h = elim h [ inl short ↦ absurd (short (good program is).header.whole) | inr short ↦ absurd (short.1 (good program is).room) ]
no_fault program fault.Magic is h = absurd (h.1 (good program is).header.magic)
no_fault program fault.Version is h = absurd (h.2 (good program is).header.version)
no_fault program fault.Kind is h = absurd (h.2.1 (good program is).header.kind)
no_fault program fault.Count is h = absurd (h.2.2 (good program is).header.count)
no_fault program (fault.Opcode pc) is h = absurd (h.2 (opcode_of_row _ _ ((good program is).rows pc (omega (arith, count_is program, h.0)))))
no_fault program (fault.Field pc) is h = absurd (h.2.1 ((good program is).rows pc (omega (arith, count_is program, h.0))))
no_fault program fault.NeedlessVersion is h = absurd (h.1 (needs_version program))
no_fault program fault.Trailing is h = absurd (omega (arith, count_is program, length_is program, h.1.1))
no_fault program fault.Memory is h = refl
