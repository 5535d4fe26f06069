use Rattle.trlab_campaign.proofs.LaneSums.{lanes_of_series_add_up}
use Rattle.trlab_campaign.proofs.laws.lanes_of_series_add_up.Goals as goal

pub returns : goal.returns
returns c = lanes_of_series_add_up
