use Rattle.std.proofs.Common.{◌≡◌, take}
use Rattle.trlab_step.proofs.for_embedders.speeds_to_bytes.Given as goal

abbrev pub invariant-loop-speed : goal.invariant-loop-speed
invariant-loop-speed l = l.bytes.items ≡ take l.speed-index l.speeds
