use Rattle.trlab_traffic.proofs.Influence.{nasch_has_light_cone, vdr_has_light_cone}
use Rattle.trlab_traffic.proofs.laws.influence_stays_in_light_cone.Goals as goal

pub returns : goal.returns
returns c = record { nasch = nasch_has_light_cone; vdr = vdr_has_light_cone }
