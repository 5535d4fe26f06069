use Rattle.std.proofs.Common.{◌≡◌, ◌+◌, length}
use Rattle.trlab_campaign.specs.SweepOutput.{AreSeeds}
use Rattle.trlab_campaign.proofs.sweep.runners.Runners.seeds.Given as goal

abbrev pub invariant-loop-number : goal.invariant-loop-number
invariant-loop-number g l = record {
  are : AreSeeds l.self.sweep.now l.fn.batch.first l.seeds.items;
  count : l.number ≡ l.fn.batch.first + length l.seeds.items;
}
