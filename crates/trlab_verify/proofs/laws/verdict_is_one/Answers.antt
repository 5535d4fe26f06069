use Rattle.std.proofs.Common.{◌≡◌, ◌∙◌, ℕ, arith, sym, subst, inl, inr, Option, Some, None}
use Rattle.std.proofs.lemmas.Bool.{cases_lt}
use Rattle.trlab_code.specs.{declared.program.Kind.Kind, Program.Program}
use Rattle.trlab_verify.specs.Verdict.{IsRefused, reason_number_at}
use Rattle.trlab_verify.proofs.laws.verdict_is_one.Goals as goal

none_and_some : (o : Option ℕ) (r : ℕ) → o ≡ None → o ≡ Some r → ⊥
none_and_some o r e f = cc (sym e ∙ f)

some_is : (o : Option ℕ) (r q : ℕ) → o ≡ Some r → o ≡ Some q → r ≡ q
some_is o r q e f = cc (sym e ∙ f)

same_place : (kind : Kind) (program : Program) (at reason other_at other_reason : ℕ) → IsRefused kind program at reason → IsRefused kind program other_at other_reason → at ≡ other_at
same_place kind program at reason other_at other_reason one other =
    elim (cases_lt at other_at) [
      | inl lt ↦ absurd (none_and_some (reason_number_at kind program at) reason (other.first at lt) one.here)
      | inr le ↦ elim (cases_lt other_at at) [
        | inl lt ↦ absurd (none_and_some (reason_number_at kind program other_at) other_reason (one.first other_at lt) other.here)
        | inr ge ↦ omega arith
      ]
    ]

pub returns-clause-accepted : goal.returns-clause-accepted
returns-clause-accepted c = λ kind program at reason accepted refused. none_and_some (reason_number_at kind program at) reason (accepted at refused.within) refused.here

pub returns-clause-refused : goal.returns-clause-refused
returns-clause-refused c = λ kind program at reason other_at other_reason one other.
    let same = same_place kind program at reason other_at other_reason one other in
    (same, some_is (reason_number_at kind program other_at) reason other_reason (subst (λ (z : ℕ). reason_number_at kind program z ≡ Some reason) same one.here) other.here)
