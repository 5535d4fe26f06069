use Rattle.std.proofs.Common.{◌≡◌, ◌≤◌, ◌+◌, length}
use Rattle.trlab_lines.specs.Lines.{lines_of}
use Rattle.trlab_lines.proofs.place.count_lines.Given as goal

abbrev pub invariant-loop-rest : goal.invariant-loop-rest
invariant-loop-rest l = (l.count + length (lines_of l.left) ≡ length (lines_of l.text))
    × (l.count + length l.left ≤ length l.text)

abbrev pub decreases-loop-rest : goal.decreases-loop-rest
decreases-loop-rest l = length l.left
