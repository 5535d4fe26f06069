-- The output for a check text, with the notes of an accepted program.
use Rattle.std.specs.Prelude.{ℕ, Bool, true, false, List, [], ◌∷◌, ◌++◌, length, flat_map, decimal, codes}
use Rattle.std.specs.{Prelude.{Option, None, Some, if◌then◌else◌, ◌≡◌}, List.range_with_len}
use Rattle.trlab_code.specs.{declared.instruction.Register.Register, Program.Program}
use Rattle.trlab_code.specs.declared.instruction.Variable.TheVariants as variable
use Rattle.trlab_asm.specs.{Names.register_text, declared.names.TheConstants.REGISTERS}
use Rattle.trlab_asm.specs.Canonical.{canonical_text}
use Rattle.trlab_notes.specs.declared.note.AbstractValue.{AbstractValue, TheVariants.{Unknown, Between}}
use Rattle.trlab_notes.specs.{declared.note.AbstractValue.TheVariants.Implies, Notes.{Note, with_side}}
use Rattle.trlab_verify.specs.Verdict.{note_at, IsLongest, IsAccepted, IsRefused}
use Rattle.trlab_jobs.specs.declared.check.Question.{Question, TheVariants.{Verdict, Notes}}
use Rattle.trlab_jobs.specs.Check.{Check, ParsesAsCheck}
use Rattle.trlab_campaign.specs.Output.{Outputs, IsOutputForText}

-- The lines with the notes of an accepted program.

-- a register with the text of its value, in a note's line: a space, its name, a space and the text
abbrev pub register_entry : Register → List ℕ → List ℕ
register_entry register value = codes " " ++ (register_text register ++ (codes " " ++ value))

-- the text for a register with this abstract value: ` r0 0 35` for r0 from 0 to 35, ` r0 flag` for a flag,
-- ` r0 side` for a flag that implies, if true, that the side cell is empty, and nothing if r0 may be unset
abbrev pub abstract_value_text : Register → AbstractValue → List ℕ
abstract_value_text register Unknown = []
abstract_value_text register (Between lo hi) = register_entry register (decimal lo ++ (codes " " ++ decimal hi))
abstract_value_text register (Implies true) = register_entry register (codes "side")
abstract_value_text register (Implies false) = register_entry register (codes "flag")

-- the text for a register of a note; if the side cell is known to be empty, every flag is `side`
abbrev pub register_value_text : Note → Register → List ℕ
register_value_text note register =
    abstract_value_text register (with_side note.side (note.values (variable.Register register)))

-- the text for all registers of a note, in their order
abbrev pub registers_text : Note → List ℕ
registers_text note = flat_map (register_value_text note) REGISTERS

-- the word ` side` if the side cell is known to be empty, and otherwise nothing
abbrev pub side_text : Bool → List ℕ
side_text side = if side then codes " side" else []

-- the line of the note before the instruction at pc, for example `note 2 r0 0 35 r1 flag`; it ends with
-- ` side` if the side cell is known to be empty
abbrev pub note_line : ℕ → Note → List ℕ
note_line pc note =
    codes "note " ++ (decimal pc ++ (registers_text note ++ (side_text note.side ++ (10 ∷ []))))

-- the line of the note at pc; nothing if there is no note
abbrev pub maybe_note_line : ℕ → Option Note → List ℕ
maybe_note_line pc None = []
maybe_note_line pc (Some note) = note_line pc note

-- the lines of the notes of a program, judged as one of its own kind: one for each instruction if the program
-- is accepted
abbrev pub notes_text : Program → List ℕ
notes_text program =
    flat_map (λ pc. maybe_note_line pc (note_at program.kind program.instrs pc))
    (range_with_len 0 (length program.instrs))

-- The output for a check text.

-- the text for an accepted program: the line `accepted budget B`, and then the program in canonical form
abbrev pub accepted_text : ℕ → Program → List ℕ
accepted_text budget program = codes "accepted budget " ++ (decimal budget ++ (10 ∷ canonical_text program.instrs))

-- the text for an accepted program, by the question of the check: its budget and canonical form, and for
-- notes also the lines of its notes
abbrev pub answer_text : Question → ℕ → Program → List ℕ
answer_text Verdict budget program = accepted_text budget program
answer_text Notes budget program = accepted_text budget program ++ notes_text program

-- the line for a rejected program, `refused at N reason R`, and the LF that ends it: the instruction N,
-- counted from 0, and the verifier's reason R
abbrev pub rejected_line : ℕ → ℕ → List ℕ
rejected_line at reason =
    codes "refused at " ++ (decimal at ++ (codes " reason " ++ (decimal reason ++ (10 ∷ []))))

-- a complete output for a check, whose program is judged as one of its own kind: the text for an accepted
-- program, or as a rejection (`true`) the line for a rejected one
abbrev pub IsOutputForCheck : Check → Outputs
IsOutputForCheck check false out = IsAccepted check.program.kind check.program × ((budget : ℕ)
    × (IsLongest check.program.instrs 0 budget × (out ≡ answer_text check.question budget check.program)))
IsOutputForCheck check true out = (at reason : ℕ)
    × (IsRefused check.program.kind check.program at reason × (out ≡ rejected_line at reason))

-- a complete output of `check` for a text, marked as a rejection or not: the output for its check, or, as
-- a rejection, the line of the text's first fault
abbrev pub IsCheckOutput : List ℕ → Outputs
IsCheckOutput text rejected out = IsOutputForText ParsesAsCheck IsOutputForCheck text rejected out
