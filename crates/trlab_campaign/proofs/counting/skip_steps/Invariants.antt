use Rattle.std.proofs.Common.{◌≡◌, ◌+◌}
use Rattle.trlab_campaign.proofs.counting.skip_steps.Given as goal

abbrev pub invariant-loop : goal.invariant-loop
invariant-loop g l = record {
  seed : l.run.seed ≡ l.fn.run.seed;
  sheet : l.run.sheet ≡ l.fn.run.sheet;
  at : l.run.step ≡ l.fn.run.step + l.counter;
}
