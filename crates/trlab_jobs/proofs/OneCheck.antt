-- A check text has exactly one meaning: a program and a question, or a first fault.
use Rattle.std.proofs.Common.{ℕ, List, [], ◌∷◌, Option, None, Some, Result, Ok, Err, IfOk}
use Rattle.trlab_code.specs.{declared.program.Kind.Kind, Program.{Program, IsValidProgram}}
use Rattle.trlab_lines.specs.Lines.{lines_of}
use Rattle.trlab_asm.specs.Operands.{map_ok}
use Rattle.trlab_texts.specs.{declared.fault.Cause.{Cause, TheVariants.Line}, Reading.LocatedFault}
use Rattle.trlab_texts.{specs.Programs.program_after, proofs.Fine.{Fine, FineText, line_other}}
use Rattle.trlab_texts.proofs.OneAnswer.{OneText, agree, said, fails, exact, made, text_one}
use Rattle.trlab_texts.proofs.OneProgram.{code_one, program_after_fine}
use Rattle.trlab_jobs.specs.declared.check.Question.{Question}
use Rattle.trlab_jobs.specs.Check.{check_of, if_no_line_left, lone_program, heading_kind, question_of, Check}
use Rattle.trlab_jobs.specs.Check.{CheckLinesParseTo, ParsesAsCheck, HeadedLinesParseTo}
use Rattle.trlab_jobs.specs.Laws.{HasSomeResult, HasAtMostOneResult, NeverRefusesStandardRules}

no_more_fine : (left : List (List ℕ)) (program : Program) → IsValidProgram program → FineText IsValidProgram (if_no_line_left left program)
no_more_fine [] program is = is
no_more_fine (text ∷ left) program is = line_other

alone_fine : (left : List (List ℕ)) (says : Result Program Cause) → Fine IsValidProgram says → FineText IsValidProgram (lone_program left says)
alone_fine left (Ok program) is = no_more_fine left program is
alone_fine left (Err cause) fine = fine

headed_one : (headed : Option Kind) (text : List ℕ) (left : List (List ℕ)) → OneText IsValidProgram (HeadedLinesParseTo headed text left)
headed_one (Some kind) text left = exact (program_after kind 1 left) (program_after_fine kind 1 left)
headed_one None text left = made (lone_program left) (code_one text) (alone_fine left)

-- the program of a check is one
abbrev pub HasProgram : Check → Type 0
HasProgram check = IsValidProgram check.program

check_fine : (question : Question) (says : Result Program LocatedFault) → FineText IsValidProgram says → FineText HasProgram (map_ok (check_of question) says)
check_fine question (Ok program) is = is
check_fine question (Err fault) fine = fine

lines_one : (lines : List (List ℕ)) → OneText HasProgram (CheckLinesParseTo lines)
lines_one [] = exact (Err (record { line = 1; cause = Line })) line_other
lines_one (text ∷ left) =
    let first = question_of text in
    made (map_ok (check_of first.0)) (headed_one (heading_kind first.1) first.1 left) (check_fine first.0)

check_text : (text : List ℕ) → OneText HasProgram (ParsesAsCheck text)
check_text text = text_one (λ t. CheckLinesParseTo (lines_of t)) text (lines_one (lines_of text))

-- a check text has a meaning, and without a fault this is a program
pub says_program : (text : List ℕ) → (says : Result Check LocatedFault) × (ParsesAsCheck text says × IfOk says HasProgram)
says_program text = said (check_text text)

pub something : HasSomeResult ParsesAsCheck
something text = let one = check_text text in (one.answer, one.says)

pub one_thing : HasAtMostOneResult ParsesAsCheck
one_thing text says other p q = agree says other (check_text text) p q

pub checks_never : NeverRefusesStandardRules ParsesAsCheck
checks_never text fault p = fails fault (check_text text) p
