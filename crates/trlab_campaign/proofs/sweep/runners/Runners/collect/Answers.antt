use Rattle.std.proofs.Common.{arith, ◌∷◌, [], ◌<◌, ◌-◌, length, length-append, refl}
use Rattle.trlab_campaign.proofs.Points.{one_more}
use Rattle.trlab_campaign.proofs.sweep.runners.Runners.collect.Goals as goal

pub loop-number-preserved : goal.loop-number-preserved
loop-number-preserved g c =
    let pushed = c.in_ok-push.ensures.items in
    let here = c.loop-number.invariant in
    let point = c.in_ok-point.point in
    let more = length-append c.loop-number.points.items (point ∷ []) in
    let inside : c.loop-number.number < length c.args.self.now.sweep.now.cars = omega (arith, c.loop-number-test.true, c.requires.inside) in
    record {
      first = rw pushed (one_more c.args.self.now.sweep.now c.loop-number.points.items c.loop-number.number _ point here.first here.count inside refl c.in_ok-point.ensures.is c.in_ok-point.ensures.measured);
      count = rw pushed (omega (arith, more, here.count));
    }

pub point-requires-clause-even : goal.point-requires-clause-even
point-requires-clause-even g c =
    let seed = c.index-seeds-index.result in
    let number = c.loop-number.number in
    let inside = c.loop-number-test.true in
    let all = c.requires.one_each in
    let start = c.requires.seeds number (number - c.args.batch.first) seed (omega arith) (omega (arith, inside, all)) in
    λ lifetimes outlive. rw (c.get.ensures, c.index-seeds-index.is) start
