use Rattle.trlab_step.proofs.SafeCalls.{crossings_in_time, speeds_in_time}
use Rattle.trlab_step.proofs.laws.answers_come_within_budget.Goals as goal

pub returns : goal.returns
returns c = record { speeds = speeds_in_time; crossings = crossings_in_time }
