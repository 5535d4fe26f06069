use Rattle.std.proofs.Common.{◌≡◌, ◌+◌}
use Rattle.trlab_sequential_book.proofs.InForce.{FirstInForce}
use Rattle.trlab_sequential_book.proofs.sheet.Sheet.are_each_in_force.Given as goal

abbrev pub invariant-loop-ran : goal.invariant-loop-ran
invariant-loop-ran l = (l.step ≡ l.first + l.ran-index) × FirstInForce l.self l.first l.applied l.ran-index
