-- Tables of notes, one note per instruction of a program: the conditions under which a table checks, and the forms in
-- which callers write and read its notes.
use Rattle.std.specs.Prelude.{◌≡◌, ℕ, suc, ◌+◌, ◌<◌, ◌==◌, if◌then◌else◌, List, length, slice_get}
use Rattle.std.specs.Prelude.{slice_index_or, Some, None, IfSome, false, ◌≤◌, [], map}
use Rattle.trlab_code.specs.{declared.program.Kind.Kind, Program.Program, Machine.register_number}
use Rattle.trlab_code.specs.{declared.instruction.{Instr.Instr, Input.Input, Variable.Variable}, Flow.target}
use Rattle.trlab_code.specs.declared.instruction.Variable.TheVariants as variable
use Rattle.trlab_notes.specs.declared.note.AbstractValue.{AbstractValue, TheVariants.{Unknown, Between}}
use Rattle.trlab_notes.specs.declared.note.{AbstractValue.TheVariants.Implies, TheConstants.BELOW}
use Rattle.trlab_notes.specs.Notes.{Note, entry, known_level, entry_values, IsNoStronger}
use Rattle.trlab_notes.specs.{Reasons.reason_against, Transfer.{next_note, jump_note}, Rows.levels_in}
use Rattle.trlab_verify.specs.{Verdict.{Follows, note_at, IsRefused}, declared.note.Mark.Mark}
use Rattle.trlab_verify.specs.declared.note.{Mark.TheVariants.{Unset, Num, Flag}, Note.Note as Form}
use Rattle.trlab_verify.specs.declared.table.NotesFault.{NotesFault, TheVariants.{Refused, Memory}}

-- the empty note, in which nothing is known
abbrev pub empty_note : Note
empty_note = record { values = λ x. Unknown; level = λ x y. 0; side = false }

-- the note of the instruction at pc in a table; the empty note if the table has none
abbrev pub note_in : List Note → ℕ → Note
note_in table pc = slice_index_or table pc empty_note

-- the notes check at instruction i at pc: some instruction leads to it, unless it is the first; no reason
-- holds against it; and the note of each instruction to which it leads is no stronger than the note that it
-- sends there
pub record ChecksAt (kind : Kind) (program : Program) (note : ℕ → Note) (pc : ℕ) (i : Instr) : Type 0 where
  pub reached : 0 < pc → (p : ℕ) × Follows program.instrs p pc
  pub clear : reason_against kind program.kind (length program.instrs) pc (note pc) i ≡ None
  pub falls : suc pc < length program.instrs → IfSome (next_note (note pc) i) (IsNoStronger (note (suc pc)))
  pub jumps : (t : ℕ) → target i ≡ Some t → t < length program.instrs
      → IsNoStronger (note t) (jump_note (note pc) i)

-- a table checks for the program as one of kind `kind`: it has one note per instruction, its first note is no
-- stronger than the entry note, and its notes check at each instruction
pub record Checks (kind : Kind) (program : Program) (table : List Note) : Type 0 where
  pub one_each : length table ≡ length program.instrs
  pub first : IsNoStronger (note_in table 0) (entry kind)
  pub each : (pc : ℕ) (i : Instr) → slice_get program.instrs pc ≡ Some i
      → ChecksAt kind program (note_in table) pc i

-- some table of notes checks for the program as one of kind `kind`, and so certifies that the program is safe
abbrev pub HasCertificate : Kind → Program → Type 0
HasCertificate kind program = (table : List Note) × Checks kind program table

-- the table has one note per instruction of the program: the verdict's note, which is the join of the notes
-- that are sent to the instruction
pub record AreVerdictNotes (kind : Kind) (program : Program) (table : List Note) : Type 0 where
  pub one_each : length table ≡ length program.instrs
  pub each : (pc : ℕ) → pc < length program.instrs → note_at kind program.instrs pc ≡ Some (note_in table pc)

-- the verdict has a note for the instruction at pc, and `note` is no stronger than this note
abbrev pub IsNoStrongerThanVerdictNote : Kind → Program → ℕ → Note → Type 0
IsNoStrongerThanVerdictNote kind program pc note =
    (best : Note) × (note_at kind program.instrs pc ≡ Some best) × IsNoStronger note best

-- the number of instructions with a note if the verdict rejects instruction `at` for this reason: those up to
-- `at`, but without `at` itself if it is unreachable, which is reason 1
abbrev pub noted_count : ℕ → ℕ → ℕ
noted_count at reason = if reason == 1 then at else at + 1

-- the table has the notes of the first `count` instructions of the program, and no others
pub record AreFirstNotes (kind : Kind) (program : Program) (count : ℕ) (table : List Note) : Type 0 where
  pub one_each : length table ≡ count
  pub each : (pc : ℕ) → pc < count → note_at kind program.instrs pc ≡ Some (note_in table pc)

-- the verdict rejects the program as one of kind `kind`, and the table has the notes up to the rejected
-- instruction, which has a note unless it is unreachable
abbrev pub AreNotesOfRejected : Kind → Program → List Note → Type 0
AreNotesOfRejected kind program table = (at : ℕ) × (reason : ℕ)
    × IsRefused kind program at reason × AreFirstNotes kind program (noted_count at reason) table

-- the abstract value that the mark of a register means
abbrev pub mark_value : Mark → AbstractValue
mark_value Unset = Unknown
mark_value (Num lo hi) = Between lo hi
mark_value (Flag imp) = Implies imp

-- the abstract value of a variable in a form: for a register, the value that its mark means, and `Unknown` if
-- it has no mark; for an input, its range, or `Unknown` if programs of kind `kind` may not read it
abbrev pub form_value : Kind → Form → Variable → AbstractValue
form_value kind form (variable.Register r) = mark_value (slice_index_or form.regs (register_number r) Unset)
form_value kind form (variable.Input k) = entry_values kind (variable.Input k)

-- the note that a form means for programs of kind `kind`
abbrev pub meaning : Kind → Form → Note
meaning kind form = record { values = form_value kind form; level = levels_in form.levels; side = form.side }

-- the table of the notes that the forms mean for programs of kind `kind`, in the same order
abbrev pub table_of : Kind → List Form → List Note
table_of kind forms = map (meaning kind) forms

-- the form without marks and levels; the note that it means knows only the ranges of the inputs
abbrev pub form_without_marks : Form
form_without_marks = record { regs = []; levels = []; side = false }

-- the note that the form of the instruction at pc means; if there is no such form, the note of the empty form
abbrev pub meaning_at : Kind → List Form → ℕ → Note
meaning_at kind forms pc = meaning kind (slice_index_or forms pc form_without_marks)

-- each known level of a note is at most BELOW, the largest level
abbrev pub HasValidLevels : Note → Type 0
HasValidLevels note = (x y : Variable) → known_level note x y ≤ BELOW

-- for every input, the note has its range, or `Unknown` if programs of kind `kind` may not read it
abbrev pub HasInputRanges : Kind → Note → Type 0
HasInputRanges kind note = (k : Input) → note.values (variable.Input k) ≡ entry_values kind (variable.Input k)

-- a possible fault instead of the notes of a program: `Refused` if the verdict rejects the program as one of
-- its own kind; `Memory` always
abbrev pub IsNotesFaultOf : Program → NotesFault → Type 0
IsNotesFaultOf program Refused = (at : ℕ) × (reason : ℕ) × IsRefused program.kind program at reason
IsNotesFaultOf program Memory = Unit {0}
