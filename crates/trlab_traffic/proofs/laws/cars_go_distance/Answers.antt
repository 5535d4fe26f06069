use Rattle.trlab_traffic.proofs.Courses.{cars_go_distance, each_car_has_gone, gone_is_one}
use Rattle.trlab_traffic.proofs.laws.cars_go_distance.Goals as goal

pub returns : goal.returns
returns c = record { each = each_car_has_gone; one = gone_is_one; all = cars_go_distance }
