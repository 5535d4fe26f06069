use Rattle.std.proofs.Common.{◌≡◌, ℕ, ◌<◌, ◌≤◌, length, get_or}
use Rattle.trlab_bounds.specs.declared.programs.TheConstants.{MAX_INSTRUCTIONS}
use Rattle.trlab_verify.specs.Verdict.{IsLongest}
use Rattle.trlab_verify.proofs.verify.longest_path.Given as goal

abbrev pub invariant-loop-pc : goal.invariant-loop-pc
invariant-loop-pc l = record {
  all : length l.longest ≡ MAX_INSTRUCTIONS;
  later : (q : ℕ) → l.pc ≤ q → q < length l.instrs → IsLongest l.instrs q (get_or l.longest q 0);
}
