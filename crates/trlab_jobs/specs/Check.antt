-- Check texts: a program, and the question about it.
use Rattle.std.specs.Prelude.{◌≡◌, ℕ, List, [], ◌∷◌, codes, Option, None, Some, Result, Ok, Err}
use Rattle.std.specs.Prelude.{if◌then◌else◌, bytes_eq}
use Rattle.trlab_code.specs.{declared.program.Kind.{Kind, TheVariants.{Motion, Change}}, Program.Program}
use Rattle.trlab_lines.specs.Lines.{without_prefix, lines_of}
use Rattle.trlab_asm.specs.Operands.{map_ok}
use Rattle.trlab_texts.specs.{declared.fault.Cause.{Cause, TheVariants.Line}, Reading.LocatedFault}
use Rattle.trlab_texts.specs.{Reading.TextParsesTo, Programs.{heading_line, program_after, code_line}}
use Rattle.trlab_jobs.specs.declared.check.Question.{Question, TheVariants.{Verdict, Notes}}

-- the question of a check and the first line of its program, if its text begins with the line `text`: the
-- notes, with the text after `notes ` if the line begins so; otherwise the verdict, with the whole line
abbrev pub question_after : List ℕ → Option (List ℕ) → Question × List ℕ
question_after text None = (Verdict, text)
question_after text (Some first) = (Notes, first)

-- the question of a check and the first line of its program, from the first line of the text: `notes motion`
-- asks for the notes of a program with the first line `motion`, and `motion` for its verdict
abbrev pub question_of : List ℕ → Question × List ℕ
question_of text = question_after text (without_prefix (codes "notes ") text)

-- the kind of program whose block begins with this line, `motion` or `change`; none for any other line
abbrev pub heading_kind : List ℕ → Option Kind
heading_kind text =
    if bytes_eq text (heading_line Motion) then Some Motion
    else if bytes_eq text (heading_line Change) then Some Change
    else None

-- the program on the first line of a text, if no line is left after it; otherwise line 2 is a fault
abbrev pub if_no_line_left : List (List ℕ) → Program → Result Program LocatedFault
if_no_line_left [] program = Ok program
if_no_line_left (text ∷ left) program = Err (record { line = 2; cause = Line })

-- the result for a text that must be one line, from the result for its first line: a cause becomes a fault at
-- line 1, and a program becomes a fault at line 2 if a line is left
abbrev pub lone_program : List (List ℕ) → Result Program Cause → Result Program LocatedFault
lone_program left (Err cause) = Err (record { line = 1; cause = cause })
lone_program left (Ok program) = if_no_line_left left program

-- the result for a text that must be one line `code X`; `text` is its first line, and `left` are the lines
-- after it
abbrev pub LoneCodeParsesTo : List ℕ → List (List ℕ) → Result Program LocatedFault → Type 0
LoneCodeParsesTo text left result =
    (first : Result Program Cause) × (code_line text first × (result ≡ lone_program left first))

-- the result for a program with the first line `text`: if this line is the heading of a block, all lines
-- after it belong to the block, which has no line `end`; otherwise the text must be one line `code X`
abbrev pub HeadedLinesParseTo : Option Kind → List ℕ → List (List ℕ) → Result Program LocatedFault → Type 0
HeadedLinesParseTo (Some kind) text left result = result ≡ program_after kind 1 left
HeadedLinesParseTo None text left result = LoneCodeParsesTo text left result

-- the result for the program of a check, from its first line `text` and the lines `left` after it
abbrev pub ProgramParsesTo : List ℕ → List (List ℕ) → Result Program LocatedFault → Type 0
ProgramParsesTo text left result = HeadedLinesParseTo (heading_kind text) text left result

-- a check: a program, and the question about it
pub record Check : Type 0 where
  pub question : Question
  pub program : Program

-- the check with this question and this program
abbrev pub check_of : Question → Program → Check
check_of question program = record { question = question; program = program }

-- the result for a check: its question with its program, or the first fault of the program. `first` is the
-- question and the first line of the program, and `left` are the lines after it
abbrev pub QuestionParsesTo : Question × List ℕ → List (List ℕ) → Result Check LocatedFault → Type 0
QuestionParsesTo first left result =
    (program : Result Program LocatedFault)
    × (ProgramParsesTo first.1 left program × (result ≡ map_ok (check_of first.0) program))

-- the result for the lines of a check text; if there are no lines, line 1 is missing
abbrev pub CheckLinesParseTo : List (List ℕ) → Result Check LocatedFault → Type 0
CheckLinesParseTo [] result = result ≡ Err (record { line = 1; cause = Line })
CheckLinesParseTo (text ∷ left) result = QuestionParsesTo (question_of text) left result

-- the result for a check text: a question about a program, or the first fault; for a text that is too long,
-- this is `TooBig`
abbrev pub ParsesAsCheck : List ℕ → Result Check LocatedFault → Type 0
ParsesAsCheck text result = TextParsesTo (λ input. CheckLinesParseTo (lines_of input)) text result
