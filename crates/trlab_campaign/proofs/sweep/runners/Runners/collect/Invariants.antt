use Rattle.std.proofs.Common.{◌≡◌, length}
use Rattle.trlab_campaign.specs.SweepOutput.{AreFirstPoints}
use Rattle.trlab_campaign.proofs.sweep.runners.Runners.collect.Given as goal

abbrev pub invariant-loop-number : goal.invariant-loop-number
invariant-loop-number g l = record {
  first : AreFirstPoints l.self.sweep.now l.points.items;
  count : length l.points.items ≡ l.number;
}
