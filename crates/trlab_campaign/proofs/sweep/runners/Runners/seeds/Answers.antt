use Rattle.std.proofs.Common.{arith, ◌∷◌, [], length-append}
use Rattle.trlab_campaign.proofs.Points.{no_seeds, one_more_seed}
use Rattle.trlab_campaign.proofs.sweep.runners.Runners.seeds.Goals as goal

pub loop-number-init : goal.loop-number-init
loop-number-init g c = record {
  are = rw c.new-seeds.ensures.items (no_seeds c.args.self.now.sweep.now c.args.batch.first);
  count = rw c.new-seeds.ensures.items (omega arith);
}

pub loop-number-preserved : goal.loop-number-preserved
loop-number-preserved g c =
    let pushed = c.in_ok-push.ensures.items in
    let here = c.loop-number.invariant in
    let seeds = c.loop-number.seeds.items in
    let seed = c.in_ok-seed.seed in
    let more = length-append seeds (seed ∷ []) in
    record {
      are = rw pushed (one_more_seed c.args.self.now.sweep.now c.args.batch.first c.loop-number.number seeds seed here.are here.count c.in_ok-seed.ensures);
      count = rw pushed (omega (arith, more, here.count));
    }
