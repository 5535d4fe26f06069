use Rattle.std.proofs.Common.{◌≡◌, ◌++◌, flat_map, drop}
use Rattle.trlab_road.specs.Pictures.{picture}
use Rattle.trlab_campaign.specs.Output.{picture_line, step_text}
use Rattle.trlab_campaign.proofs.output.push_step.Given as goal

abbrev pub invariant-loop-lane : goal.invariant-loop-lane
invariant-loop-lane l = l.out.items ++ flat_map (λ lane. picture_line (picture lane)) (drop l.lane l.road.lanes) ≡ l.fn.out.items ++ step_text l.fn.step l.road
