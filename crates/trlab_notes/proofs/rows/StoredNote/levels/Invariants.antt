use Rattle.std.proofs.Common.{◌≡◌, ℕ, ◌<◌, [], length, get_or}
use Rattle.trlab_bounds.specs.declared.programs.TheConstants.{VARIABLES}
use Rattle.trlab_notes.specs.Rows.{level_of}
use Rattle.trlab_notes.proofs.rows.StoredNote.levels.Given as goal

abbrev pub invariant-loop-x : goal.invariant-loop-x
invariant-loop-x l = record {
  all : length l.levels ≡ VARIABLES;
  so_far : (j : ℕ) → j < l.x → (k : ℕ) → k < VARIABLES → get_or (get_or l.levels j []) k 0 ≡ level_of l.self.rows j k;
}
