use Rattle.std.proofs.Common.{◌<◌, ℕ, map, length}
use Rattle.trlab_road.specs.Pictures.{ShowsCell, picture_at, character_at}
use Rattle.trlab_road.proofs.picture.check_pictures.Given as goal

-- the bytes of the lanes so far show cells
abbrev pub invariant-loop-lane : goal.invariant-loop-lane
invariant-loop-lane l = (m y : ℕ) → m < l.lane → y < length (picture_at (map (λ s. s.now) l.pictures) m) → ShowsCell l.limit (character_at (map (λ s. s.now) l.pictures) m y)
