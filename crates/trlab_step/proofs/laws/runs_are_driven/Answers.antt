use Rattle.trlab_step.proofs.Driving as lemmas
use Rattle.trlab_step.proofs.laws.runs_are_driven.Goals as goal

pub returns : goal.returns
returns c = lemmas.runs_are_driven
