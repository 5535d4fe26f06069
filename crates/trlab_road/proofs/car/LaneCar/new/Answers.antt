use Rattle.std.proofs.Common.{◌≡◌, ℕ, ◌+◌, ◌*◌, ◌/◌, ◌%◌, ◌<◌, refl, arith}
use Rattle.std.proofs.lemmas.Nat.{div-mul-add, mod-mul-add}
use Rattle.trlab_road.specs.Stored.{LaneCar}
use Rattle.trlab_road.proofs.car.LaneCar.new.Goals as goal

-- a place and a speed in one number are read back
kept : (number place speed : ℕ) → speed < 64
    → ◌≡◌ {A = LaneCar} (record { number = number; place = (place * 64 + speed) / 64; speed = (place * 64 + speed) % 64 }) (record { number = number; place = place; speed = speed })
kept number place speed slow = rw (div-mul-add place 64 speed slow, mod-mul-add place 64 speed slow) refl

pub returns : goal.returns
returns c = kept c.args.number c.args.place c.args.speed (omega (arith, c.requires.at_most_max_limit))
