use Rattle.std.proofs.Common.{◌≡◌, length}
use Rattle.trlab_lines.{specs.Lines.{line_at, lines_of}, proofs.Places.IsUnread}
use Rattle.trlab_lines.proofs.place.Place.at.Given as goal

abbrev pub invariant-loop-line : goal.invariant-loop-line
invariant-loop-line l = (line_at l.ahead (lines_of l.left) ≡ line_at l.fn.number (lines_of l.text)) × IsUnread l.text l.left l.fn.number l.ahead

abbrev pub decreases-loop-line : goal.decreases-loop-line
decreases-loop-line l = length l.left
