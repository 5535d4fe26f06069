use Rattle.std.proofs.Common.{◌≡◌, ◌≤◌, ◌*◌, take, count_by, nat_eq, sum}
use Rattle.trlab_step.proofs.tally.tally_of.Given as goal

abbrev pub invariant-loop-speed : goal.invariant-loop-speed
invariant-loop-speed l = record {
  gone : l.distance ≡ sum (take l.speed-index l.speeds);
  at_most : l.distance ≤ l.speed-index * 255;
  stopped : l.stopped ≡ count_by (λ speed. nat_eq speed 0) (take l.speed-index l.speeds);
  few : l.stopped ≤ l.speed-index;
}
