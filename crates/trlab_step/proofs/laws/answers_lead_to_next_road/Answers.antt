use Rattle.trlab_step.proofs.Stepped.{answers_lead_to_next_road}
use Rattle.trlab_step.proofs.laws.answers_lead_to_next_road.Goals as goal

pub returns : goal.returns
returns c = answers_lead_to_next_road
