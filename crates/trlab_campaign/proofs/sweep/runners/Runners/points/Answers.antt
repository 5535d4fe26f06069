use Rattle.std.proofs.Common.{◌≡◌, ap, arith, length}
use Rattle.trlab_jobs.specs.Sweep.{Sweep as Said}
use Rattle.trlab_campaign.proofs.Points.{all_points, no_points}
use Rattle.trlab_campaign.proofs.sweep.runners.Runners.points.Goals as goal

pub loop-sweep-init : goal.loop-sweep-init
loop-sweep-init g c = rw c.new-points.ensures.items (no_points c.args.self.now.sweep.now)

pub returns-clause-are : goal.returns-clause-are
returns-clause-are g c =
    let here = c.loop-sweep.invariant in
    let few = here.few in
    let seen = ap (λ (s : Said). length s.cars) c.sweep.view_is in
    let all : length c.loop-sweep.points.items ≡ length c.args.self.now.sweep.now.cars = omega (arith, c.loop-sweep-test.false, seen, few) in
    all_points c.args.self.now.sweep.now c.loop-sweep.points.items here all
