use Rattle.std.proofs.Common.{◌≡◌}
use Rattle.trlab_embedding.proofs.one_road.walk.Given as goal

abbrev pub invariant-loop-step : goal.invariant-loop-step
invariant-loop-step g l = record { at : l.run.step ≡ l.step }
