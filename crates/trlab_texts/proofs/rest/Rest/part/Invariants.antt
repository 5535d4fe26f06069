use Rattle.std.proofs.Common.{◌+◌, ◌≤◌, length}
use Rattle.trlab_texts.proofs.Parts.{Searched}
use Rattle.trlab_texts.proofs.rest.Rest.part.Given as goal

abbrev pub decreases-loop-line : goal.decreases-loop-line
decreases-loop-line l = length l.left

abbrev pub invariant-loop-line : goal.invariant-loop-line
invariant-loop-line l = record {
  searched : Searched l.unread l.left l.lines;
  room : l.lines + length l.left ≤ length l.unread;
}
