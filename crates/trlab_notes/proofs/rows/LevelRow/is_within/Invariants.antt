use Rattle.std.proofs.Common.{ℕ, ◌<◌, ◌≤◌}
use Rattle.trlab_notes.specs.Rows.{level_in}
use Rattle.trlab_notes.proofs.rows.LevelRow.is_within.Given as goal

abbrev pub invariant-loop-y : goal.invariant-loop-y
invariant-loop-y l = (k : ℕ) → k < l.y → level_in l.self k ≤ level_in l.other k
