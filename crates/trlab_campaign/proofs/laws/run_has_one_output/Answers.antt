use Rattle.trlab_campaign.proofs.{OneOutput.one_output, SomeOutput.some_output}
use Rattle.trlab_campaign.proofs.laws.run_has_one_output.Goals as goal

pub returns : goal.returns
returns c = record { some_output = some_output; one_output = one_output }
