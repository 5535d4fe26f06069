-- Every text has the head of an explanation.
use Rattle.std.proofs.Common.{ℕ, List, [], refl, inl, inr, true, false, Result, Ok, Err, IfOk}
use Rattle.trlab_verify.proofs.Judged.{accepted_or_refused, some_budget}
use Rattle.trlab_texts.specs.Reading.{LocatedFault}
use Rattle.trlab_jobs.specs.{Check.Check as AbstractCheck, declared.subject.Subject.TheVariants.{Job, Sweep}}
use Rattle.trlab_jobs.{specs.declared.subject.Subject.TheVariants.Check, proofs.OneText.something as job_says}
use Rattle.trlab_jobs.proofs.{OneSweep.something as sweep_says, OneCheck.{HasProgram, says_program}}
use Rattle.trlab_lines.specs.Lines.{lines_of, line_at}
use Rattle.trlab_campaign.specs.{CheckOutput.rejected_line, Output.fault_line}
use Rattle.trlab_explain.specs.Explanations.{quote_line, accepted_line, budget_sentence, IsCheckHead, IsFaultHead}
use Rattle.trlab_explain.specs.{Explanations.{IsProgramHead, IsTextHead}, declared.explanation.Head.Head}
use Rattle.trlab_explain.specs.Laws.{EveryTextHasAHead}

fault_some : (text : List ℕ) (fault : LocatedFault) → (head : Head) × IsFaultHead text fault head
fault_some text fault = (record { is_rejected = true; answer = fault_line fault; quote = quote_line fault.line (line_at fault.line (lines_of text)); budget = [] }, (refl, refl, refl))

text_some : {A : Type 0} (text : List ℕ) (says : Result A LocatedFault) → (head : Head) × IsTextHead text says head
text_some text (Ok said) = (record { is_rejected = false; answer = []; quote = []; budget = [] }, (refl, refl, refl, refl))
text_some text (Err fault) = fault_some text fault

program_some : (check : AbstractCheck) → HasProgram check → (head : Head) × IsProgramHead check head
program_some check is = elim (accepted_or_refused check.program.kind check.program) [
  | inl accepted ↦
      let found = some_budget check.program.kind check.program is accepted in
      (record { is_rejected = false; answer = accepted_line found.0; quote = []; budget = budget_sentence found.0 }, (accepted, (found.0, found.1.longest, refl, refl)))
  | inr refused ↦ (record { is_rejected = true; answer = rejected_line refused.0 refused.1; quote = []; budget = [] }, (refused.0, refused.1, refused.2, refl, refl))
]

check_some : (text : List ℕ) (says : Result AbstractCheck LocatedFault) → IfOk says HasProgram → (head : Head) × IsCheckHead text says head
check_some text (Ok check) is = program_some check is
check_some text (Err fault) is = fault_some text fault

pub some_head : EveryTextHasAHead
some_head Job text =
    let found = job_says text in
    let told = text_some text found.0 in
    (told.0, (found.0, found.1, told.1))
some_head Sweep text =
    let found = sweep_says text in
    let told = text_some text found.0 in
    (told.0, (found.0, found.1, told.1))
some_head Check text =
    let found = says_program text in
    let told = check_some text found.0 found.1.1 in
    (told.0, (found.0, found.1.0, told.1))
