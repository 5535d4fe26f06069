-- A check text has an output.
use Rattle.std.proofs.Common.{ℕ, List, refl, inl, inr, Bool, true, false, Result, Ok, Err, IfOk}
use Rattle.trlab_jobs.{specs.Check.Check, proofs.OneCheck.{HasProgram, says_program}}
use Rattle.trlab_verify.proofs.Judged.{accepted_or_refused, some_budget}
use Rattle.trlab_texts.specs.Reading.{LocatedFault}
use Rattle.trlab_campaign.specs.{Output.{IsOutputForResult, fault_line}, Laws.HasSomeOutput}
use Rattle.trlab_campaign.specs.CheckOutput.{answer_text, rejected_line, IsOutputForCheck, IsCheckOutput}

verdict_some : (check : Check) → HasProgram check → (rejected : Bool) × (out : List ℕ) × IsOutputForCheck check rejected out
verdict_some check is = elim (accepted_or_refused check.program.kind check.program) [
  | inl accepted ↦
      let found = some_budget check.program.kind check.program is accepted in
      (false, answer_text check.question found.0 check.program, (accepted, (found.0, (found.1.longest, refl))))
  | inr rejected ↦ (true, rejected_line rejected.0 rejected.1, (rejected.0, rejected.1, (rejected.2, refl)))
]

output_some : (says : Result Check LocatedFault) → IfOk says HasProgram → (rejected : Bool) × (out : List ℕ) × IsOutputForResult IsOutputForCheck says rejected out
output_some (Ok check) is = verdict_some check is
output_some (Err fault) is = (true, fault_line fault, (refl, refl))

pub some_output : HasSomeOutput IsCheckOutput
some_output text =
    let found = says_program text in
    let output = output_some found.0 found.1.1 in
    (output.0, output.1, (found.0, (found.1.0, output.2)))
