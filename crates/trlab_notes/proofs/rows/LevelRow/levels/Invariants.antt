use Rattle.std.proofs.Common.{◌≡◌, ℕ, ◌<◌, length, get_or}
use Rattle.trlab_bounds.specs.declared.programs.TheConstants.{VARIABLES}
use Rattle.trlab_notes.specs.Rows.{level_in}
use Rattle.trlab_notes.proofs.rows.LevelRow.levels.Given as goal

abbrev pub invariant-loop-y : goal.invariant-loop-y
invariant-loop-y l = record {
  all : length l.levels ≡ VARIABLES;
  so_far : (k : ℕ) → k < l.y → get_or l.levels k 0 ≡ level_in l.self k;
}
