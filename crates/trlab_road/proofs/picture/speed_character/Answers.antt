use Rattle.std.proofs.Common.{◌≡◌, ◌<◌, ℕ, get_or, refl, below_more, arith}
use Rattle.trlab_road.specs.{declared.picture.TheConstants.CHARACTERS, Pictures.speed_character}
use Rattle.trlab_road.proofs.picture.speed_character.Goals as goal

-- the table has the character of each speed
abbrev Is : ℕ → Type 0
Is speed = get_or CHARACTERS speed 0 ≡ speed_character speed

each : (speed : ℕ) → speed < 36 → Is speed
each =
    below_more Is 35 (below_more Is 34 (below_more Is 33 (below_more Is 32 (below_more Is 31 (below_more Is 30 (below_more Is 29 (below_more Is 28 (below_more Is 27 (below_more Is 26 (below_more Is 25 (below_more Is 24 (below_more Is 23 (below_more Is 22 (below_more Is 21 (below_more Is 20 (below_more Is 19 (below_more Is 18 (below_more Is 17 (below_more Is 16 (below_more Is 15 (below_more Is 14 (below_more Is 13 (below_more Is 12 (below_more Is 11 (below_more Is 10 (below_more Is 9 (below_more Is 8 (below_more Is 7 (below_more Is 6 (below_more Is 5 (below_more Is 4 (below_more Is 3 (below_more Is 2 (below_more Is 1 (below_more Is 0 (λ s low. absurd (omega (arith, low))) refl) refl) refl) refl) refl) refl) refl) refl) refl) refl) refl) refl) refl) refl) refl) refl) refl) refl) refl) refl) refl) refl) refl) refl) refl) refl) refl) refl) refl) refl) refl) refl) refl) refl) refl) refl

pub returns : goal.returns
returns c = each c.args.speed (omega (arith, c.requires))
