use mir.Val.{bool_byte}
use Rattle.std.proofs.Common.{◌≡◌, ◌∙◌, ◌<◌, ℕ, Bool, true, false, ap, arith, cond, get_or, length, nat_eq}
use Rattle.std.proofs.{Common.refl, lemmas.List.{get_or_read, Sums.sum_by_more}}
use Rattle.trlab_road.specs.Stored.{LaneCar, no_car}
use Rattle.trlab_campaign.proofs.LaneCounts.{at_most}
use Rattle.trlab_campaign.proofs.counting.count_cars.Goals as goal

-- a test as a number
byte_is : (b : Bool) → bool_byte b ≡ cond b 1 0
byte_is true = refl
byte_is false = refl

pub loop-k-preserved : goal.loop-k-preserved
loop-k-preserved c =
    let line = c.args.line.now in
    let k = c.loop-k.k in
    let inv = c.loop-k.invariant in
    let inside : k < length line = omega (arith, c.loop-k-test.true) in
    let speed : c.speed-speed.result ≡ (get_or line k no_car).speed
    = c.speed-speed.ensures ∙ ap (λ (car : LaneCar). car.speed) (get_or_read line k c.index-line-k.result inside c.index-line-k.is no_car) in
    let far = sum_by_more (λ (car : LaneCar). car.speed) line k no_car inside in
    let stood = sum_by_more (λ (car : LaneCar). cond (nat_eq car.speed 0) 1 0) line k no_car inside in
    let a = inv.distance in
    let b = inv.stopped in
    let slow = c.requires.at_most_max_limit k inside in
    let gone = c.from-distance.ensures in
    let stopped : c.from-stopped.result ≡ cond (nat_eq (get_or line k no_car).speed 0) 1 0 = c.from-stopped.ensures ∙ byte_is (nat_eq c.speed-speed.result 0) ∙ ap (λ (n : ℕ). cond (nat_eq n 0) 1 0) speed in
    let one = at_most (nat_eq (get_or line k no_car).speed 0) 1 in
    let d = inv.slow in
    let e = inv.few_stopped in
    record {
      distance = omega (arith, far, a, gone, speed);
      stopped = omega (arith, stood, b, stopped);
      slow = omega (arith, gone, speed, slow, d);
      few_stopped = omega (arith, stopped, one, e);
    }
