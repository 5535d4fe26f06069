use Rattle.trlab_step.proofs.CallLaws.{runs_call_safely, steps_call_safely}
use Rattle.trlab_step.proofs.laws.calls_are_safe.Goals as goal

pub returns : goal.returns
returns c = record { step = steps_call_safely; run = runs_call_safely }
