use Rattle.trlab_traffic.proofs.Newell.{minimum_principle, minimum_principle_gives_distance}
use Rattle.trlab_traffic.proofs.Newell.{minimum_principle_later, nobody_beats_minimum}
use Rattle.trlab_traffic.proofs.Newell.{rule_184_minimum_principle}
use Rattle.trlab_traffic.proofs.laws.minimum_principle.Goals as goal

pub returns : goal.returns
returns c = record { gap = minimum_principle; distance = minimum_principle_gives_distance; rule_184 = rule_184_minimum_principle; later = minimum_principle_later; bound = nobody_beats_minimum }
