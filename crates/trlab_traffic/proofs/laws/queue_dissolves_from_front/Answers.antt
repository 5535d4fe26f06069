use Rattle.trlab_traffic.proofs.Queues.{queue_starts, queue_waits}
use Rattle.trlab_traffic.proofs.laws.queue_dissolves_from_front.Goals as goal

pub returns : goal.returns
returns c = record { waits = queue_waits; starts = queue_starts }
