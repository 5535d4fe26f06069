use Rattle.std.proofs.Common.{ℕ, ◌<◌}
use Rattle.trlab_verify.specs.Verdict.{Follows}
use Rattle.trlab_verify.proofs.for_embedders.is_reached.Given as goal

abbrev pub invariant-loop-pc : goal.invariant-loop-pc
invariant-loop-pc l = (k : ℕ) → k < l.pc → ¬ (Follows l.fn.instrs k l.fn.q)
