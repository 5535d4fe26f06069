-- A program that is the only line of its text, and the question of a check about a program.
use Rattle.std.proofs.Common.{◌≡◌, ◌≢◌, ℕ, List, [], ◌∷◌, refl, subst, Ok, Err}
use Rattle.trlab_code.specs.Program.{Program}
use Rattle.trlab_texts.specs.declared.fault.{Cause.{Cause, TheVariants.Line}, TextFault.TextFault}
use Rattle.trlab_texts.specs.{declared.fault.TextFault.TheVariants.{At, Memory}, Reading.Reports}
use Rattle.trlab_texts.specs.Programs.{code_line}
use Rattle.trlab_jobs.specs.{declared.check.Question.Question, Check.{check_of, question_of, Check}}
use Rattle.trlab_jobs.specs.Check.{CheckLinesParseTo, LoneCodeParsesTo, ProgramParsesTo, QuestionParsesTo}

-- the line of a program, if no line follows it
pub code_is_alone : (text : List ℕ) (left : List (List ℕ)) (program : Program) → code_line text (Ok program) → left ≡ [] → LoneCodeParsesTo text left (Ok program)
code_is_alone text left program says none = rw none (Ok program, (says, refl))

pub code_before_others : (text : List ℕ) (left : List (List ℕ)) (program : Program) → code_line text (Ok program) → left ≢ [] → LoneCodeParsesTo text left (Err (record { line = 2; cause = Line }))
code_before_others text [] program says some = absurd (some refl)
code_before_others text (next ∷ left) program says some = (Ok program, (says, refl))

pub no_code_alone : (text : List ℕ) (left : List (List ℕ)) (cause : Cause) → code_line text (Err cause) → LoneCodeParsesTo text left (Err (record { line = 1; cause = cause }))
no_code_alone text left cause says = (Err cause, (says, refl))

-- the question about a program, from the first line: the line states the question, or begins the program
pub check_says : (text line : List ℕ) (question : Question) (left : List (List ℕ)) (program : Program) → (question, line) ≡ question_of text
    → ProgramParsesTo line left (Ok program) → CheckLinesParseTo (text ∷ left) (Ok (check_of question program))
check_says text line question left program is says =
    subst (λ (first : Question × List ℕ). QuestionParsesTo first left (Ok (check_of question program))) is (Ok program, (says, refl))

-- lines that are not a program have the program's fault, for every question
pub check_fails : (text line : List ℕ) (question : Question) (left : List (List ℕ)) (fault : TextFault) → (question, line) ≡ question_of text
    → Reports {A = Program} (ProgramParsesTo line left) (Err fault) → Reports {A = Check} (CheckLinesParseTo (text ∷ left)) (Err fault)
check_fails text line question left (At number cause) is says =
    subst (λ (first : Question × List ℕ). QuestionParsesTo first left (Err (record { line = number; cause = cause }))) is (Err (record { line = number; cause = cause }), (says, refl))
check_fails text line question left Memory is says = tt
