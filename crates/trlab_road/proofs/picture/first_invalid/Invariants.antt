use Rattle.std.proofs.Common.{◌<◌, ℕ, get_or}
use Rattle.trlab_road.specs.Pictures.{ShowsCell}
use Rattle.trlab_road.proofs.picture.first_invalid.Given as goal

-- the bytes so far show cells
abbrev pub invariant-loop-place : goal.invariant-loop-place
invariant-loop-place l = (x : ℕ) → x < l.place → ShowsCell l.limit (get_or l.picture x 0)
