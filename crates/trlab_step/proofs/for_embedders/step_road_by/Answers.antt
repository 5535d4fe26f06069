use Rattle.std.proofs.Common.{◌≡◌, ◌≤◌, ◌∙◌, ◌&&◌, ◌==◌, ℕ, Bool, not, Option, None, Some, is_some, Err, Ok}
use Rattle.std.proofs.Common.{true, false, eqb-true, length, refl, sym, arith, IsSome}
use Rattle.std.proofs.lemmas.{Bool.{false≢true}, Result.err_from_is_err_and}
use Rattle.trlab_verify.specs.Verified.{CheckedProgram}
use Rattle.trlab_road.specs.Cells.{Cells, IsLegal}
use Rattle.trlab_rules.specs.Rules.{Programs}
use Rattle.trlab_machine.specs.declared.dice.Dice.{Dice}
use Rattle.trlab_step.specs.declared.for_embedders.StepFault.TheVariants.{LanesMismatch, Memory}
use Rattle.trlab_step.specs.{declared.tally.StepTally.StepTally, Next.{IsStepResult, IsNext, IsCleanNext}}
use Rattle.trlab_step.proofs.for_embedders.step_road_by.Goals as goal

-- a rule suits a road unless it has a change program and the road has one lane
not_false : (b : Bool) → not b ≡ false → b ≡ true
not_false true e = refl
not_false false e = sym e

unsuited : (change : Option CheckedProgram) (n : ℕ) → not (is_some change && (n == 1)) ≡ false → IsSome change × (n ≡ 1)
unsuited None n e = absurd (false≢true (sym e))
unsuited (Some change) n e = (refl, eqb-true n 1 (not_false (n == 1) e))

suited : (change : Option CheckedProgram) (n : ℕ) → not (is_some change && (n == 1)) ≡ true → IsSome change × (n ≡ 1) → ⊥
suited None n e both = false≢true both.0
suited (Some change) n e both = false≢true (rw both.1 at e)

two_of : (n : ℕ) → 1 ≤ n → n ≤ 2 → (n ≡ 1 → ⊥) → n ≡ 2
two_of n some few other = omega (arith, some, few, other)

-- the result, by cases
module _ (rule : Programs) (dice : Dice) (road : Cells) where
  tells_mismatch : IsSome rule.change → length road.lanes ≡ 1 → IsStepResult rule dice road (Err LanesMismatch)
  tells_mismatch some one = record { mismatch = ((λ e. (some, one)), (λ h. refl)); next = tt; clean = tt; legal = tt }

  tells_memory : (IsSome rule.change × (length road.lanes ≡ 1) → ⊥) → IsStepResult rule dice road (Err Memory)
  tells_memory never = record { mismatch = ((λ e. absurd cc), (λ h. absurd (never h))); next = tt; clean = tt; legal = tt }

  tells_next : (IsSome rule.change × (length road.lanes ≡ 1) → ⊥) → (next : Cells) (tally : StepTally) → IsNext rule dice road next tally → IsCleanNext rule dice road next tally → IsLegal next → IsStepResult rule dice road (Ok (next, tally))
  tells_next never next tally is clean legal = record { mismatch = ((λ e. absurd cc), (λ h. absurd (never h))); next = is; clean = clean; legal = legal }

pub returns-then-not-suits : goal.returns-then-not-suits
returns-then-not-suits g c =
    let both = unsuited c.args.rule.now.change (length c.args.road.now.lanes) (sym c.suits.ensures.value ∙ c.if-not-suits.true) in
    tells_mismatch c.args.rule.now c.args.dice.now c.args.road.now both.0 both.1

pub returns-in_err-next : goal.returns-in_err-next
returns-in_err-next g c =
    let p = err_from_is_err_and c.from_residual.result c.from_residual.ensures.1 in
    rw (p.1, p.2) (tells_memory c.args.rule.now c.args.dice.now c.args.road.now (suited c.args.rule.now.change (length c.args.road.now.lanes) (sym c.suits.ensures.value ∙ c.if-not-suits.false)))

pub returns-in_err-tally : goal.returns-in_err-tally
returns-in_err-tally g c =
    let p = err_from_is_err_and c.from_residual-in_err-tally.result c.from_residual-in_err-tally.ensures.1 in
    rw (p.1, p.2) (tells_memory c.args.rule.now c.args.dice.now c.args.road.now (suited c.args.rule.now.change (length c.args.road.now.lanes) (sym c.suits.ensures.value ∙ c.if-not-suits.false)))

pub returns : goal.returns
returns g c = tells_next c.args.rule.now c.args.dice.now c.args.road.now (suited c.args.rule.now.change (length c.args.road.now.lanes) (sym c.suits.ensures.value ∙ c.if-not-suits.false)) _ _
    (rw c.in_ok-next.ensures at c.in_ok-tally.ensures.next)
    (rw c.in_ok-next.ensures at c.in_ok-tally.ensures.clean)
    c.in_ok-tally.ensures.legal

pub take_step-requires-clause-ready : goal.take_step-requires-clause-ready
take_step-requires-clause-ready g c = c.requires

pub take_step-requires-clause-lanes : goal.take_step-requires-clause-lanes
take_step-requires-clause-lanes g c = rw c.in_ok-next.ensures (λ some.
    let fit = c.suits.ensures.legal.shape.lanes in
    two_of _ fit.some_lane fit.few_lanes (λ e. suited c.args.rule.now.change (length c.args.road.now.lanes) (sym c.suits.ensures.value ∙ c.if-not-suits.false) (some, e)))
