use Rattle.trlab_campaign.proofs.{OneVerdict.one_output, SomeVerdict.some_output}
use Rattle.trlab_campaign.proofs.laws.check_has_one_output.Goals as goal

pub returns : goal.returns
returns c = record { some_output = some_output; one_output = one_output }
