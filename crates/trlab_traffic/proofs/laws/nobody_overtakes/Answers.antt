use Rattle.trlab_traffic.proofs.Gaps.{each_car_has_next, next_car_is_one, run_keeps_next_car}
use Rattle.trlab_traffic.proofs.Gaps.{step_keeps_next_car}
use Rattle.trlab_traffic.proofs.laws.nobody_overtakes.Goals as goal

pub returns : goal.returns
returns c = record { next = each_car_has_next; one = next_car_is_one; step = step_keeps_next_car; run = run_keeps_next_car }
