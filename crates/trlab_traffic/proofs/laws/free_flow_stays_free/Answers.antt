use Rattle.trlab_traffic.proofs.FreeFlow.{free_flow_goes_on, free_flow_stays_free, free_flow_turns}
use Rattle.trlab_traffic.proofs.laws.free_flow_stays_free.Goals as goal

pub returns : goal.returns
returns c = record { step = free_flow_goes_on; run = free_flow_stays_free; rotated = free_flow_turns }
