use Rattle.trlab_traffic.proofs.EvenCars.{even_cars_flow_on_triangle}
use Rattle.trlab_traffic.proofs.laws.even_cars_flow_on_triangle.Goals as goal

pub returns : goal.returns
returns c = even_cars_flow_on_triangle
