-- A job text has an output, for any choice of the steps that are shown.
use Rattle.std.proofs.Common.{ℕ, ◌+◌, List, refl, Bool, true, false, Result, Ok, Err, IfOk}
use Rattle.trlab_texts.specs.Reading.{LocatedFault}
use Rattle.trlab_jobs.{specs.{Job.Job, Stored.IsStoredJob}, proofs.OneText.says_plain}
use Rattle.trlab_campaign.specs.Output.{IsOutputForResult, fault_line, IsOutputForJob, steps_text}
use Rattle.trlab_campaign.{specs.Laws.ShownHasSomeOutput, proofs.Running.roads_of}

output_some : (shown : ℕ → Bool) (says : Result Job LocatedFault) → IfOk says IsStoredJob → (rejected : Bool) × (out : List ℕ) × IsOutputForResult (IsOutputForJob shown) says rejected out
output_some shown (Ok job) plain =
    let found = roads_of job plain in
    let out = steps_text shown found.0 (job.steps + 1) in
    (false, out, (refl, (found.0, record { road_at = λ step _. found.1 step; pictures = refl })))
output_some shown (Err fault) plain = (true, fault_line fault, (refl, refl))

pub some_output : ShownHasSomeOutput
some_output shown text =
    let found = says_plain text in
    let output = output_some shown found.0 found.1.1 in
    (output.0, output.1, (found.0, (found.1.0, output.2)))
