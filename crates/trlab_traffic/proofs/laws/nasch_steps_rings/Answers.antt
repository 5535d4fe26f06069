use Rattle.trlab_traffic.proofs.RingSteps.{steps_keep_cars}
use Rattle.trlab_traffic.proofs.RingMotion.{nasch_goes_by_rings, nasch_steps_rings}
use Rattle.trlab_traffic.proofs.laws.nasch_steps_rings.Goals as goal

pub returns : goal.returns
returns c = record { step = nasch_steps_rings; distance = nasch_goes_by_rings; cars = steps_keep_cars }
