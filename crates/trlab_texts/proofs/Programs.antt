-- The meaning of the lines of programs.
use Rattle.std.proofs.Common.{◌≡◌, ◌≢◌, ℕ, List, refl, sym, false, Result, Ok, Err, bytes_eq}
use Rattle.trlab_code.specs.declared.program.Kind.{Kind, TheVariants.{Motion, Change}}
use Rattle.trlab_code.specs.{declared.fault.CodeFault.TheVariants.Kind as OtherKind, Program.Program}
use Rattle.trlab_verify.specs.Verified.{CheckedProgram}
use Rattle.trlab_texts.specs.declared.fault.{Cause.{Cause, TheVariants.Code}, TextFault.TextFault}
use Rattle.trlab_texts.specs.declared.fault.TextFault.TheVariants.{At, Memory}
use Rattle.trlab_texts.specs.Reading.{Rest, IsNextLine, line, Reports}
use Rattle.trlab_texts.specs.Programs.{as_kind, code_line, code_line_of, heading_line, program_part, verdict}
use Rattle.trlab_texts.{specs.Programs.{IsVerdict, part}, proofs.Readings.goes_on}

kind_as : (kind own : Kind) (program : Program) → own ≡ kind → as_kind kind own program ≡ Ok program
kind_as Motion Motion program e = refl
kind_as Motion Change program e = cc
kind_as Change Motion program e = cc
kind_as Change Change program e = refl

kind_not : (kind own : Kind) (program : Program) → own ≢ kind → as_kind kind own program ≡ Err (Code OtherKind)
kind_not Motion Motion program other = absurd (other refl)
kind_not Motion Change program other = refl
kind_not Change Motion program other = refl
kind_not Change Change program other = absurd (other refl)

-- the lines of a program of this kind, of one of the other kind, and of none
pub code_of_kind : (kind : Kind) (text : List ℕ) (program : Program) → code_line text (Ok program) → program.kind ≡ kind → code_line_of kind text (Ok program)
code_of_kind kind text program says is = (Ok program, (says, sym (kind_as kind program.kind program is)))

pub code_of_other : (kind : Kind) (text : List ℕ) (program : Program) → code_line text (Ok program) → program.kind ≢ kind → code_line_of kind text (Err (Code OtherKind))
code_of_other kind text program says other = (Ok program, (says, sym (kind_not kind program.kind program other)))

pub code_of_none : (kind : Kind) (text : List ℕ) (cause : Cause) → code_line text (Err cause) → code_line_of kind text (Err cause)
code_of_none kind text cause says = (Err cause, (says, refl))

-- a program in one line
pub in_one_line : (kind : Kind) (place after : Rest) (text : List ℕ) (out : Result (Program × Rest) TextFault) → IsNextLine place text after
    → bytes_eq text (heading_line kind) ≡ false → Reports (line (code_line_of kind) place) out → Reports (program_part kind place) out
in_one_line kind place after text (Ok found) stands other says = rw (stands.0, other) (rw stands.0 at says)
in_one_line kind place after text (Err (At number cause)) stands other says = rw (stands.0, other) (rw stands.0 at says)
in_one_line kind place after text (Err Memory) stands other says = tt

-- the verdict on a program that was read
pub verdict_behind : (kind : Kind) (place after : Rest) (program : Program) (checked : CheckedProgram) → program_part kind place (Ok (program, after))
    → IsVerdict kind place.number program (Ok checked) → part kind place (Ok (checked, after))
verdict_behind kind place after program checked says answer =
    goes_on (program_part kind) (verdict kind place.number) place after program (Ok (checked, after)) says (Ok checked, (answer, refl))

pub refusal_behind : (kind : Kind) (place after : Rest) (program : Program) (first : ℕ) (fault : TextFault) → program_part kind place (Ok (program, after))
    → first ≡ place.number → Reports {A = CheckedProgram} (IsVerdict kind first program) (Err fault) → Reports {A = CheckedProgram × Rest} (part kind place) (Err fault)
refusal_behind kind place after program first (At number cause) says here answer =
    goes_on (program_part kind) (verdict kind place.number) place after program (Err (At number cause)) says
    (Err (record { line = number; cause = cause }), (rw here at answer, refl))
refusal_behind kind place after program first Memory says here answer = tt
