use Rattle.trlab_road.proofs.Headspeeds.{of_lone_car, of_next_car}
use Rattle.trlab_road.proofs.laws.headspeed_is_speed_of_next_car.Goals as goal

pub returns : goal.returns
returns c = record { next = of_next_car; lone = of_lone_car }
