-- A fault of a program is at one of its lines, or at line 0.
use Rattle.std.proofs.Common.{◌≡◌, ◌==◌, ℕ, suc, ◌+◌, ◌≤◌, List, [], ◌∷◌, ◌++◌, length, subst, ap, arith, inl}
use Rattle.std.proofs.Common.{inr, Bool, true, false, cond, ◌⊎◌, Option, None, Some, Result, Ok, Err}
use Rattle.trlab_code.specs.{declared.{program.Kind.Kind, instruction.Instr.Instr}, Program.Program}
use Rattle.trlab_asm.specs.declared.fault.{Why.{Why, TheVariants.Empty}, AsmFault.AsmFault}
use Rattle.trlab_asm.specs.{Operands.{◌>>=◌}, Reading.{InstrDraft, Labels, Line, line_content}}
use Rattle.trlab_asm.specs.Assembly.{LineDraft, Parts, no_parts, in_line, with_draft, with_line, first_pass}
use Rattle.trlab_asm.specs.Assembly.{jump_to, resolve_label, resolve, second_pass, instrs_of, code_of}
use Rattle.trlab_asm.specs.Assembly.{IsOutOfMemory}

-- a fault at a line up to n
abbrev Within : {A : Type 0} → ℕ → Result A AsmFault → Type 0
Within n (Ok x) = Unit {0}
Within n (Err fault) = fault.line ≤ n

-- instructions were read at lines up to n
ReadWithin : ℕ → List LineDraft → Type 0
ReadWithin n [] = Unit {0}
ReadWithin n (read ∷ reads) = (read.line ≤ n) × ReadWithin n reads

-- so the first pass succeeds, or has a fault there
abbrev PassWithin : ℕ → Result Parts AsmFault → Type 0
PassWithin n (Ok parts) = ReadWithin n parts.drafts
PassWithin n (Err fault) = fault.line ≤ n

read_more : (n : ℕ) (reads : List LineDraft) (read : LineDraft) → ReadWithin n reads → read.line ≤ n → ReadWithin n (reads ++ (read ∷ []))
unfolding ReadWithin
read_more n [] read all here = (here, tt)
read_more n (first ∷ reads) read all here = (all.0, read_more n reads read all.1 here)

read_line : (n number : ℕ) (reads : List LineDraft) (draft : Option InstrDraft) → ReadWithin n reads → number ≤ n → ReadWithin n (with_draft reads number draft)
read_line n number reads None all here = all
read_line n number reads (Some draft) all here = read_more n reads (record { line = number; draft = draft }) all here

first_step : (n number : ℕ) (parts : Parts) (left : List (List ℕ)) (say : Result Line Why) → number ≤ n
    → ((line : Line) → PassWithin n (first_pass (with_line parts number line) (number + 1) left))
    → PassWithin n (in_line number say >>= λ line. first_pass (with_line parts number line) (number + 1) left)
first_step n number parts left (Ok line) here rest = rest line
first_step n number parts left (Err why) here rest = here

first_within : (n number : ℕ) (lines : List (List ℕ)) (parts : Parts) → number + length lines ≤ suc n → ReadWithin n parts.drafts → PassWithin n (first_pass parts number lines)
unfolding first_pass
first_within n number [] parts room all = all
first_within n number (line ∷ left) parts room all =
    first_step n number parts left (line_content parts.labels (length parts.drafts) line) (omega arith)
    (λ say. first_within n (number + 1) left (with_line parts number say) (omega arith) (read_line n number parts.drafts say.draft all (omega arith)))

jump_within : (n line : ℕ) (instr : Instr) (pc : Option ℕ) → line ≤ n → Within n (jump_to line instr pc)
jump_within n line instr None here = here
jump_within n line instr (Some pc) here = tt

label_within : (n line : ℕ) (labels : Labels) (instr : Instr) (label : Option (List ℕ)) → line ≤ n → Within n (resolve_label labels line instr label)
label_within n line labels instr None here = tt
label_within n line labels instr (Some name) here = jump_within n line instr (labels name) here

second_step : (n : ℕ) (one : Result Instr AsmFault) (rest : Result (List Instr) AsmFault) → Within n one → Within n rest
    → Within n (one >>= λ instr. rest >>= λ instrs. Ok (instr ∷ instrs))
second_step n (Err fault) rest here others = here
second_step n (Ok instr) (Err fault) here others = others
second_step n (Ok instr) (Ok instrs) here others = tt

second_within : (n : ℕ) (labels : Labels) (reads : List LineDraft) → ReadWithin n reads → Within n (second_pass labels reads)
unfolding second_pass ReadWithin
second_within n labels [] all = tt
second_within n labels (read ∷ reads) all =
    second_step n (resolve labels read) (second_pass labels reads) (label_within n read.line labels read.draft.instr read.draft.label all.0) (second_within n labels reads all.1)

abbrev no_instr : Result (List Instr) AsmFault
no_instr = Err (record { line = 0; why = Empty })

some_within : (n : ℕ) (empty : Bool) (instrs : Result (List Instr) AsmFault) → Within n instrs → Within n (cond empty no_instr instrs)
some_within n true instrs rest = omega arith
some_within n false instrs rest = rest

program_within : (n : ℕ) (kind : Kind) (instrs : Result (List Instr) AsmFault) → Within n instrs → Within {A = Program} n (instrs >>= λ code. Ok (record { kind = kind; instrs = code }))
program_within n kind (Ok code) within = tt
program_within n kind (Err fault) within = within

passes_within : (n : ℕ) (kind : Kind) (parts : Result Parts AsmFault) → PassWithin n parts
    → Within {A = Program} n (parts >>= λ found. instrs_of found >>= λ code. Ok (record { kind = kind; instrs = code }))
passes_within n kind (Ok parts) within =
    program_within n kind (instrs_of parts)
    (some_within n (length parts.drafts == 0) (second_pass parts.labels parts.drafts) (second_within n parts.labels parts.drafts within))
passes_within n kind (Err fault) within = within

nothing_read : (n : ℕ) → ReadWithin n []
unfolding ReadWithin
nothing_read n = tt

code_within : (kind : Kind) (lines : List (List ℕ)) → Within (length lines) (code_of kind lines)
code_within kind lines =
    passes_within (length lines) kind (first_pass no_parts 1 lines) (first_within (length lines) 1 lines no_parts (omega arith) (nothing_read (length lines)))

-- the line of an assembler's fault in some lines
pub line_within : (kind : Kind) (lines : List (List ℕ)) (fault : AsmFault) → (code_of kind lines ≡ Err fault) ⊎ IsOutOfMemory fault → fault.line ≤ length lines
line_within kind lines fault (inl told) = subst (Within (length lines)) told (code_within kind lines)
line_within kind lines fault (inr none) = let at : fault.line ≡ 0 = ap (λ f. f.line) none in omega arith
