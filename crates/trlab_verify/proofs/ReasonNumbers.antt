-- The reasons to reject a program are numbered from 1 on.
use Rattle.std.proofs.Common.{◌≡◌, ℕ, ◌≤◌, subst, arith, Option, None, Some, option_map}
use Rattle.trlab_code.specs.{declared.program.Kind.Kind, Program.Program}
use Rattle.trlab_notes.specs.{declared.reasons.Reason.Reason, Reasons.reason_number}
use Rattle.trlab_notes.specs.declared.reasons.Reason.TheVariants as why
use Rattle.trlab_verify.specs.Verdict.{IsRefused, reason_number_at}

positive : (reason : Reason) → 1 ≤ reason_number reason
positive why.Unreachable = omega arith
positive why.WrongProgram = omega arith
positive why.MaybeUnset = omega arith
positive why.WrongValue = omega arith
positive why.JumpsBack = omega arith
positive why.JumpsOut = omega arith
positive why.FallsOut = omega arith
positive why.MaybeTooLarge = omega arith
positive why.MaybeBelowZero = omega arith
positive why.MaybeAboveGap = omega arith
positive why.MaybeAboveLimit = omega arith
positive why.MaybeOccupied = omega arith

some_is : {a b : ℕ} → Some a ≡ Some b → a ≡ b
some_is e = cc

not_none : {a : ℕ} → None ≡ Some a → ⊥
not_none e = cc

found_from_one : (found : Option Reason) (reason : ℕ) → option_map reason_number found ≡ Some reason → 1 ≤ reason
found_from_one None reason e = absurd (not_none e)
found_from_one (Some why) reason e = subst (λ n. 1 ≤ n) (some_is e) (positive why)

pub numbered_from_one : (kind : Kind) (program : Program) (at reason : ℕ) → IsRefused kind program at reason → 1 ≤ reason
unfolding reason_number_at
numbered_from_one kind program at reason refused = found_from_one _ reason refused.here
