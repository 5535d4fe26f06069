-- Programs that the verifier has accepted, its faults, and its results for a code as a program of a kind.
use Rattle.std.specs.Prelude.{◌≡◌, ℕ, ◌≢◌}
use Rattle.trlab_code.specs.{declared.program.Kind.Kind, Program.{Program, IsValidProgram}, Machine.IsSafe}
use Rattle.trlab_verify.specs.{Verdict.{IsLongest, IsForward, IsRefused, IsAccepted}, Tables.HasCertificate}
use Rattle.trlab_verify.specs.declared.verify.VerifyFault.{VerifyFault, TheVariants.{Why, Memory}}

-- an accepted program with its budget, in instructions
pub record CheckedProgram : Type 0 where
  pub program : Program
  pub budget : ℕ

-- the invariant of an accepted program of a kind: it is a valid program of that kind, its control goes
-- forward and stays in it, and it is safe within its budget, which is the length of its longest path
pub record IsChecked (kind : Kind) (checked : CheckedProgram) : Type 0 where
  pub program : IsValidProgram checked.program
  pub kind_is : checked.program.kind ≡ kind
  pub forward : IsForward checked.program.instrs
  pub safe : IsSafe kind checked.program.instrs checked.budget
  pub longest : IsLongest checked.program.instrs 0 checked.budget

-- a possible fault of verifying the program as one of kind `kind`: `Why` if the verdict rejects the program
-- at the instruction `at` for this reason; `Memory` always
abbrev pub IsFaultOf : Kind → Program → VerifyFault → Type 0
IsFaultOf kind program (Why at reason) = IsRefused kind program at reason
IsFaultOf kind program Memory = Unit {0}

-- the fault excludes certificates: a program that is rejected as one of kind `kind` has none for this kind,
-- nor for its own kind unless the reason is 2 (an instruction of the wrong kind); `Memory` excludes none
abbrev pub ExcludesCertificates : Kind → Program → VerifyFault → Type 0
ExcludesCertificates kind program (Why at reason) =
    ¬ (HasCertificate kind program) × (reason ≢ 2 → ¬ (HasCertificate program.kind program))
ExcludesCertificates kind program Memory = Unit {0}

-- the accepted program of a code: it is the code, safe within its budget (the length of its longest path),
-- and it has a certificate
pub record IsAcceptedAs (kind : Kind) (code : Program) (program : CheckedProgram) : Type 0 where
  pub same : program.program ≡ code
  pub accepted : IsAccepted kind code
  pub longest : IsLongest code.instrs 0 program.budget
  pub safe : IsSafe kind code.instrs program.budget
  pub some_table : HasCertificate kind code

-- the error of verifying a code as a program of kind `kind`: the same code, and either the verdict's reason
-- to reject it, which excludes certificates, or a failed allocation
pub record IsVerifyErrorAs (kind : Kind) (code : Program) (error : Program × VerifyFault) : Type 0 where
  pub same : error.0 ≡ code
  pub refused : IsFaultOf kind code error.1
  pub no_table : ExcludesCertificates kind code error.1
