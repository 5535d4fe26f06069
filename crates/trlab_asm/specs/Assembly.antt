-- Assembly: from the lines of a text to a program. The first pass reads the lines in order, the second gives
-- jumps the pcs of their labels.
use Rattle.std.specs.Prelude.{◌≡◌, ℕ, ◌+◌, ◌==◌, List, [], ◌∷◌, ◌++◌, length, bytes_eq, Option, None, Some}
use Rattle.std.specs.{Prelude.{Result, Ok, Err, if◌then◌else◌}, Map.update}
use Rattle.trlab_code.specs.{Program.Program, declared.{program.Kind.Kind, instruction.Instr.Instr}}
use Rattle.trlab_code.specs.declared.instruction.Instr.TheVariants.{Jump, JumpLess, JumpAtMost, JumpTrue}
use Rattle.trlab_code.specs.declared.instruction.Instr.TheVariants.{JumpFalse}
use Rattle.trlab_asm.specs.{Operands.{◌>>=◌}, Reading.{InstrDraft, Labels, Line, line_content}}
use Rattle.trlab_asm.specs.declared.fault.{Why.{Why, TheVariants.{Empty, NoLabel, Memory}}, AsmFault.AsmFault}

-- the result of reading a line; a fault gets the line's number
abbrev pub in_line : {A : Type 0} → ℕ → Result A Why → Result A AsmFault
in_line number (Ok x) = Ok x
in_line number (Err why) = Err (record { line = number; why = why })

-- an instruction as it was read, with the number of its line
pub record LineDraft : Type 0 where
  pub line : ℕ
  pub draft : InstrDraft

-- the labels of a text, each with its pc, and its instructions in order, as they were read
pub record Parts : Type 0 where
  pub labels : Labels
  pub drafts : List LineDraft

-- the parts of an empty text: no label and no instruction
abbrev pub no_parts : Parts
no_parts = record { labels = λ name. None; drafts = [] }

-- the labels with one more, `name`, at this pc; unchanged if there is no name
abbrev pub with_label : Labels → ℕ → Option (List ℕ) → Labels
with_label labels pc None = labels
with_label labels pc (Some name) = update bytes_eq labels name (Some pc)

-- the instructions read so far, and one more, of line `number`; unchanged if there is no draft
abbrev pub with_draft : List LineDraft → ℕ → Option InstrDraft → List LineDraft
with_draft drafts number None = drafts
with_draft drafts number (Some draft) = drafts ++ (record { line = number; draft = draft } ∷ [])

-- the parts read so far, with one more line added: a label gets the pc of the instruction on its line, or
-- of the next instruction if the line has none
abbrev pub with_line : Parts → ℕ → Line → Parts
with_line parts number line = record {
  labels = with_label parts.labels (length parts.drafts) line.label;
  drafts = with_draft parts.drafts number line.draft;
}

-- the first pass: the parts read so far, with the given lines added, which are numbered from `number` on; or
-- the first fault
unfoldable pub first_pass : Parts → ℕ → List (List ℕ) → Result Parts AsmFault
first_pass parts number [] = Ok parts
first_pass parts number (line ∷ lines) =
    in_line number (line_content parts.labels (length parts.drafts) line)
    >>= λ content. first_pass (with_line parts number content) (number + 1) lines

-- the same jump with this pc as its target; other instructions stay as they are
abbrev pub with_target : ℕ → Instr → Instr
with_target pc (Jump t) = Jump pc
with_target pc (JumpLess a b t) = JumpLess a b pc
with_target pc (JumpAtMost a b t) = JumpAtMost a b pc
with_target pc (JumpTrue a t) = JumpTrue a pc
with_target pc (JumpFalse a t) = JumpFalse a pc
with_target pc instr = instr

-- the jump of a line with the pc of its label as target; the fault `NoLabel` if the label has no pc, because
-- no line has it
abbrev pub jump_to : ℕ → Instr → Option ℕ → Result Instr AsmFault
jump_to line instr None = Err (record { line = line; why = NoLabel })
jump_to line instr (Some pc) = Ok (with_target pc instr)

-- the instruction of a line with the pc of its label as target, if it names a label; the fault `NoLabel` if
-- no line has this label
abbrev pub resolve_label : Labels → ℕ → Instr → Option (List ℕ) → Result Instr AsmFault
resolve_label labels line instr None = Ok instr
resolve_label labels line instr (Some name) = jump_to line instr (labels name)

-- an instruction that was read, with the pc of its label as target, if it names a label; the fault `NoLabel`
-- if no line has this label
abbrev pub resolve : Labels → LineDraft → Result Instr AsmFault
resolve labels read = resolve_label labels read.line read.draft.instr read.draft.label

-- the second pass: the instructions that were read, with the pcs of their labels as targets; or the first
-- fault
unfoldable pub second_pass : Labels → List LineDraft → Result (List Instr) AsmFault
second_pass labels [] = Ok []
second_pass labels (read ∷ drafts) =
    resolve labels read >>= λ instr. second_pass labels drafts >>= λ instrs. Ok (instr ∷ instrs)

-- the instructions of a text, by the second pass; the fault `Empty`, with line 0, if the text has none
abbrev pub instrs_of : Parts → Result (List Instr) AsmFault
instrs_of parts =
    if length parts.drafts == 0 then Err (record { line = 0; why = Empty })
    else second_pass parts.labels parts.drafts

-- the program of kind `kind` that these lines assemble to, or their first fault; lines are numbered from 1
abbrev pub code_of : Kind → List (List ℕ) → Result Program AsmFault
code_of kind lines = do
  parts ← first_pass no_parts 1 lines
  instrs ← instrs_of parts
  Ok (record { kind = kind; instrs = instrs })

-- the fault of a failed allocation; it has line 0, because no line of the text caused it
abbrev pub IsOutOfMemory : AsmFault → Type 0
IsOutOfMemory fault = fault ≡ record { line = 0; why = Memory }
