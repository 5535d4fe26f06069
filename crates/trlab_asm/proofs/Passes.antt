-- The two passes, one step after the other.
use Rattle.std.proofs.Common.{◌≡◌, ℕ, suc, ◌+◌, ◌<◌, ◌≤◌, List, [], ◌∷◌, ◌++◌, length, drop, get_or, refl}
use Rattle.std.proofs.Common.{sym, ap, append_assoc, append-nil, add-one, drop-cons, false, ◌==◌, Result, Ok}
use Rattle.std.proofs.Common.{Err, drop_of_length-le}
use Rattle.trlab_code.specs.declared.instruction.Instr.{Instr}
use Rattle.trlab_asm.specs.{Operands.{◌>>=◌}, Reading.{Labels, Line, line_content}}
use Rattle.trlab_asm.specs.Assembly.{Parts, LineDraft, in_line, with_line, first_pass, resolve, second_pass}
use Rattle.trlab_asm.specs.{Assembly.instrs_of, declared.fault.AsmFault.AsmFault}

-- a line that is not empty
pub first_next : (parts : Parts) (number : ℕ) (line : List ℕ) (left : List (List ℕ)) (said : Line) → Ok said ≡ in_line number (line_content parts.labels (length parts.drafts) line)
    → first_pass parts number (line ∷ left) ≡ first_pass (with_line parts number said) (number + 1) left
unfolding first_pass
first_next parts number line left said e = rw (← e) refl

-- a line that has a fault
pub first_fault : (parts : Parts) (number : ℕ) (line : List ℕ) (left : List (List ℕ)) (fault : AsmFault) → Err fault ≡ in_line number (line_content parts.labels (length parts.drafts) line)
    → first_pass parts number (line ∷ left) ≡ Err fault
unfolding first_pass
first_fault parts number line left fault e = rw (← e) refl

-- the end of the lines
pub first_end : (parts : Parts) (number : ℕ) → first_pass parts number [] ≡ Ok parts
unfolding first_pass
first_end parts number = refl

-- some instructions, and those that are still to come
abbrev pub following : List Instr → Result (List Instr) AsmFault → Result (List Instr) AsmFault
following before rest = rest >>= λ instrs. Ok (before ++ instrs)

regroup : (before : List Instr) (instr : Instr) (rest : Result (List Instr) AsmFault) → following before (rest >>= λ instrs. Ok (instr ∷ instrs)) ≡ following (before ++ (instr ∷ [])) rest
regroup before instr (Ok instrs) = ap Ok (sym (append_assoc before (instr ∷ []) instrs))
regroup before instr (Err fault) = refl

-- an instruction whose label is found
pub second_next : (labels : Labels) (drafts : List LineDraft) (i : ℕ) (d : LineDraft) (before : List Instr) (instr : Instr) → i < length drafts → Ok instr ≡ resolve labels (get_or drafts i d)
    → following before (second_pass labels (drop i drafts)) ≡ following (before ++ (instr ∷ [])) (second_pass labels (drop (i + 1) drafts))
unfolding second_pass
second_next labels drafts i d before instr inside e = rw (add-one, drop-cons drafts i d, ← e) (regroup before instr (second_pass labels (drop (suc i) drafts)))

-- an instruction whose label is not
pub second_fault : (labels : Labels) (drafts : List LineDraft) (i : ℕ) (d : LineDraft) (before : List Instr) (fault : AsmFault) → i < length drafts → Err fault ≡ resolve labels (get_or drafts i d)
    → following before (second_pass labels (drop i drafts)) ≡ Err fault
unfolding second_pass
second_fault labels drafts i d before fault inside e = rw (drop-cons drafts i d, ← e) refl

-- the end of the instructions
pub second_end : (labels : Labels) (drafts : List LineDraft) (i : ℕ) (before : List Instr) → length drafts ≤ i → following before (second_pass labels (drop i drafts)) ≡ Ok before
unfolding second_pass
second_end labels drafts i before past = rw (drop_of_length-le drafts past) (ap Ok (append-nil before))

-- if there is an instruction, the second pass decides the result
pub some_instrs : (parts : Parts) (drafts : List LineDraft) (labels : Labels) → false ≡ (length drafts == 0) → drafts ≡ parts.drafts → labels ≡ parts.labels → instrs_of parts ≡ second_pass labels drafts
some_instrs parts drafts labels some all known = rw (← all, ← known, ← some) refl
