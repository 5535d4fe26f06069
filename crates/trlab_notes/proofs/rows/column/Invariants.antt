use Rattle.std.proofs.Common.{◌≡◌, ℕ, ◌<◌}
use Rattle.trlab_notes.specs.Rows.{level_in, level_of}
use Rattle.trlab_notes.proofs.rows.column.Given as goal

abbrev pub invariant-loop-x : goal.invariant-loop-x
invariant-loop-x l = (k : ℕ) → k < l.x → level_in l.column k ≡ level_of l.rows k l.fn.y
