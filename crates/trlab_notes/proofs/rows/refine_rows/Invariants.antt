use Rattle.std.proofs.Common.{◌≡◌, ℕ, ◌<◌, length, max, nat_eq, cond}
use Rattle.trlab_bounds.specs.declared.programs.TheConstants.{VARIABLES}
use Rattle.trlab_notes.specs.{Transfer.chain, Rows.{level_in, level_of}}
use Rattle.trlab_notes.proofs.rows.refine_rows.Given as goal

abbrev pub invariant-loop-x : goal.invariant-loop-x
invariant-loop-x l = record {
  all : length l.refined ≡ VARIABLES;
  so_far : (k : ℕ) → k < l.x → (y : ℕ) → y < VARIABLES → level_of l.refined k y ≡
      cond (nat_eq y k) (level_of l.rows k k) (max (level_of l.rows k y) (chain (level_in l.fn.first k) l.fn.level (level_in l.fn.last y)));
}
