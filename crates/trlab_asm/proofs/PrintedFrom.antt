-- The canonical text, from one instruction to the next.
use Rattle.std.proofs.Common.{◌≡◌, ℕ, ◌+◌, ◌<◌, ◌≤◌, List, ◌∷◌, ◌++◌, length, drop, get_or, refl}
use Rattle.std.proofs.Common.{append_assoc, append-nil, add-one, drop-cons, drop_of_length-le}
use Rattle.trlab_code.specs.declared.instruction.Instr.{Instr}
use Rattle.trlab_asm.specs.Canonical.{instr_line, is_jumped_to, text_from}

-- a line that is printed, and the lines after it
pub text_next : (instrs : List Instr) (pc : ℕ) (d : Instr) (before : List ℕ) → pc < length instrs
    → (before ++ instr_line (length instrs) (is_jumped_to instrs pc) pc (get_or instrs pc d)) ++ (10 ∷ text_from instrs (pc + 1) (drop (pc + 1) instrs)) ≡ before ++ text_from instrs pc (drop pc instrs)
unfolding text_from
text_next instrs pc d before inside = rw (drop-cons instrs pc d, append_assoc, add-one) refl

-- no line is left after the last instruction
pub text_end : (instrs : List Instr) (pc : ℕ) (before : List ℕ) → length instrs ≤ pc → before ++ text_from instrs pc (drop pc instrs) ≡ before
unfolding text_from
text_end instrs pc before past = rw (drop_of_length-le instrs past, append-nil) refl
