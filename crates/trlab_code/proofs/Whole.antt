-- Consequences for a reader's result, from the one encoding and the one first fault.
use Rattle.std.proofs.Common.{◌≡◌, ◌≢◌, ℕ, ◌+◌, ◌*◌, ◌≤◌, ◌⊎◌, List, ◌++◌, length, take, drop, Result, Ok}
use Rattle.std.proofs.Common.{Err, sym, ap, ◌∙◌, subst, arith, inl, inr, length-drop, take-append-drop}
use Rattle.std.proofs.Common.{take_all, flat_map}
use Rattle.trlab_code.specs.{declared.fault.CodeFault.CodeFault, Encoding.{header, instr_bytes, encoding}}
use Rattle.trlab_code.specs.{Program.{Program, IsValidProgram, version_of}, Faults.IsFirstCodeFault}
use Rattle.trlab_code.proofs.{Injective.same_program, EncodedCode.no_fault, Apart.{one_fault, cases_memory}}
use Rattle.trlab_code.specs.declared.fault.CodeFault.TheVariants as fault

abbrev Answer : Type 0
Answer = Result Program CodeFault

-- bytes are the encoding of the program that their header and their rows spell
pub spelling_of_parts : (bytes : List ℕ) (code : Program) (version count : ℕ) → version_of code ≡ version → length code.instrs ≡ count → take 8 bytes ≡ header version code.kind count → flat_map instr_bytes code.instrs ≡ take (8 * count) (drop 8 bytes) → length bytes ≤ 8 + 8 * count → bytes ≡ encoding code
unfolding encoding
spelling_of_parts bytes code version count needed many head rows short =
    let all = take_all (8 * count) (drop 8 bytes) (omega (arith, length-drop 8 bytes)) in
    let cut = take-append-drop 8 bytes in
    let start : take 8 bytes ≡ header (version_of code) code.kind (length code.instrs) = rw (many, needed) head in
    sym cut ∙ ap (λ front. front ++ drop 8 bytes) start ∙ ap (λ rest. header (version_of code) code.kind (length code.instrs) ++ rest) (sym (rows ∙ all))

pub found_fault : (bytes : List ℕ) (f : CodeFault) → IsFirstCodeFault bytes f → (program : Program) → IsValidProgram program → bytes ≡ encoding program → (◌≡◌ {A = Answer} (Err f) (Ok program)) ⊎ (◌≡◌ {A = Answer} (Err f) (Err fault.Memory))
found_fault bytes f first program is spelt =
    let P : List ℕ → Type 0 = λ b. IsFirstCodeFault b f in
    inr (ap Err (no_fault program f is (subst P spelt first)))

pub told_fault : (bytes : List ℕ) (f : CodeFault) → IsFirstCodeFault bytes f → (g : CodeFault) → IsFirstCodeFault bytes g → g ≢ fault.Memory → (◌≡◌ {A = Answer} (Err f) (Err g)) ⊎ (◌≡◌ {A = Answer} (Err f) (Err fault.Memory))
told_fault bytes f first g other some =
    elim (cases_memory f) [ inl none ↦ inr (ap Err none) | inr not ↦ inl (ap Err (one_fault bytes f g first other not some)) ]

pub found_program : (bytes : List ℕ) (code : Program) → bytes ≡ encoding code → (program : Program) → IsValidProgram program → bytes ≡ encoding program → (◌≡◌ {A = Answer} (Ok code) (Ok program)) ⊎ (◌≡◌ {A = Answer} (Ok code) (Err fault.Memory))
found_program bytes code spelt program is other = inl (ap Ok (same_program code program (sym spelt ∙ other)))

pub told_program : (bytes : List ℕ) (code : Program) → IsValidProgram code → bytes ≡ encoding code → (g : CodeFault) → IsFirstCodeFault bytes g → g ≢ fault.Memory → (◌≡◌ {A = Answer} (Ok code) (Err g)) ⊎ (◌≡◌ {A = Answer} (Ok code) (Err fault.Memory))
told_program bytes code is spelt g first some =
    let P : List ℕ → Type 0 = λ b. IsFirstCodeFault b g in
    absurd (some (no_fault code g is (subst P spelt first)))
