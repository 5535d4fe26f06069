use Rattle.trlab_traffic.proofs.Queues.{queue_flows_out}
use Rattle.trlab_traffic.proofs.laws.queue_flows_out_car_by_car.Goals as goal

pub returns : goal.returns
returns c = queue_flows_out
