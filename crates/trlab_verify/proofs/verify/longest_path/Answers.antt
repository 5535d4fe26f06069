use Rattle.std.proofs.Common.{◌≡◌, ◌≢◌, ℕ, ◌-◌, ◌<◌, ◌≤◌, length, arith, get_or, List, set, get_or-set_same}
use Rattle.std.proofs.{Common.{get_or-set_other, inl, inr}, lemmas.{Grind.common_steps, Bool.cases_lt}}
use Rattle.trlab_code.specs.declared.instruction.Instr.{Instr}
use Rattle.trlab_verify.specs.Verdict.{IsLongest}
use Rattle.trlab_verify.proofs.verify.longest_path.Goals as goal

-- the longest paths are right after the one at k is written
one_more : (code : List Instr) (longest : List ℕ) (k n : ℕ) → k < length longest → IsLongest code k n → (q : ℕ) → k ≤ q → (k < q → IsLongest code q (get_or longest q 0)) → IsLongest code q (get_or (set longest k n) q 0)
one_more code longest k n inside new q ge later =
    elim (cases_lt k q) [
      | inl lt ↦ let ne : q ≢ k = omega arith in rw get_or-set_other (later lt)
      | inr le ↦ let same : q ≡ k = omega arith in rw (same, get_or-set_same) new
    ]

pub loop-pc-preserved : goal.loop-pc-preserved
loop-pc-preserved c = record {
  all = grind (arith, common_steps, c.loop-pc.invariant.all);
  later = λ q ge lt. one_more c.args.instrs.now c.loop-pc.longest (c.loop-pc.pc - 1) c.longest_from.result (omega (arith, c.loop-pc.invariant.all, c.requires.at_most_max_instructions, c.loop-pc.auto.pc, c.loop-pc-test.true)) c.longest_from.ensures q ge (λ above. c.loop-pc.invariant.later q (omega arith) lt);
}
