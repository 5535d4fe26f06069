use Rattle.trlab_campaign.proofs.{OnePoints.sweep_one_output, SomePoints.sweep_some_output}
use Rattle.trlab_campaign.proofs.laws.sweep_has_one_output.Goals as goal

pub returns : goal.returns
returns c = record { some_output = sweep_some_output; one_output = sweep_one_output }
