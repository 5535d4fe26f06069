use Rattle.trlab_campaign.proofs.OneSeries.{one_output, some_output}
use Rattle.trlab_campaign.proofs.laws.series_has_one_output.Goals as goal

pub returns : goal.returns
returns c = record { some_output = some_output; one_output = one_output }
