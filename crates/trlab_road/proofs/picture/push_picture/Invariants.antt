use Rattle.std.proofs.Common.{◌≡◌, ◌++◌, take}
use Rattle.trlab_road.specs.{Stored.cells_of, Pictures.picture}
use Rattle.trlab_road.proofs.picture.push_picture.Given as goal

-- the old bytes, and after them the picture of the cars so far
abbrev pub invariant-loop-k : goal.invariant-loop-k
invariant-loop-k l = l.out.items ≡ l.fn.out.items ++ picture (cells_of l.cells (take l.k l.cars))
