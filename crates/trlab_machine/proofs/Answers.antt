-- A program has only one answer.
use Rattle.std.proofs.Common.{◌≡◌, ℕ, zero, suc, refl, ap, List}
use Rattle.trlab_code.specs.declared.{program.Kind.Kind, instruction.Instr.Instr, view.View.View}
use Rattle.trlab_code.specs.Machine.{Answer, MachineState, At, Done, Stuck, start, step, EndsFrom, EndsWith}

module _ (kind : Kind) (code : List Instr) (view : View) (words : List ℕ) (a b : Answer) where
  -- from each state there is at most one answer, and one number of steps to it
  pub one_answer_from : (state : MachineState) (m n : ℕ) → EndsFrom kind code view words state a m → EndsFrom kind code view words state b n → (a ≡ b) × (m ≡ n)
  one_answer_from (At pc s) zero n here there = absurd (cc here)
  one_answer_from (At pc s) (suc m) zero here there = absurd (cc there)
  one_answer_from (At pc s) (suc m) (suc n) here there =
      let rest = one_answer_from (step kind code view words pc s) m n here there in
      (rest.0, ap suc rest.1)
  one_answer_from (Done other) zero zero here there = (cc (here, there), refl)
  one_answer_from (Done other) zero (suc n) here there = absurd there
  one_answer_from (Done other) (suc m) n here there = absurd here
  one_answer_from Stuck zero n here there = absurd (cc here)
  one_answer_from Stuck (suc m) n here there = absurd here

  -- a program has at most one answer, and one number of steps to it
  pub one_answer : (m n : ℕ) → EndsWith kind code view words a m → EndsWith kind code view words b n → (a ≡ b) × (m ≡ n)
  one_answer m n here there = one_answer_from (At 0 (start kind view)) m n here there
