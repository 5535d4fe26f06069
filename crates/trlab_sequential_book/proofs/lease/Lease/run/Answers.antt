use Rattle.std.proofs.Common.{Bool, List, ◌≡◌, ◌∙◌, ◌∷◌, [], ◌++◌, ap, refl, subst, sym, Result, Ok, Err}
use Rattle.std.{proofs.{Common.{IsErr, IsTrue, OnErr, OnOk}, lemmas.Bool.{false≢true}}, specs.Arc.arc_value}
use Rattle.std.specs.declared.alloc.AllocError.{AllocError}
use Rattle.trlab_sequential_book.specs.{declared.lease.ExecutedStep.ExecutedStep, Leases.IsSteady}
use Rattle.trlab_sequential_book.proofs.LeaseRuns.{has_stepped, lease_grows, still, still_lease}
use Rattle.trlab_sequential_book.proofs.lease.Lease.run.Goals as goal

no_step : (told : Result (Unit {0}) AllocError) (P : Type 0) → IsErr told → OnOk told P
no_step (Ok done) P is = absurd (false≢true is)
no_step (Err fault) P is = tt

refused : (told : Result (Unit {0}) AllocError) (P : Type 0) → P → OnErr told P
refused (Ok done) P p = tt
refused (Err fault) P p = p

grown : (before reserved after : List ExecutedStep) (ran : ExecutedStep) → after ≡ reserved ++ ran ∷ [] → reserved ≡ before → after ≡ before ++ ran ∷ []
grown before reserved after ran pushed same = pushed ∙ ap (λ (xs : List ExecutedStep). xs ++ ran ∷ []) same

-- if no step is added, the rules are still known to be steady
still_steady : (is_steady : Bool) (before after : List ExecutedStep) → after ≡ before → (IsTrue is_steady → IsSteady before) → IsTrue is_steady → IsSteady after
still_steady is_steady before after same known = subst (λ (xs : List ExecutedStep). IsTrue is_steady → IsSteady xs) (sym same) known

pub invariant_of-self : goal.invariant_of-self
invariant_of-self g c = (
  still_lease _ _ _ refl c.reserve.ensures.items c.self.invariant.0,
  still_steady _ _ _ c.reserve.ensures.items c.self.invariant.1,
)

pub returns-in_err-reserve-clause-ok : goal.returns-in_err-reserve-clause-ok
returns-in_err-reserve-clause-ok g c = no_step _ _ c.from_residual.ensures.0

pub returns-in_err-reserve-clause-unchanged : goal.returns-in_err-reserve-clause-unchanged
returns-in_err-reserve-clause-unchanged g c = refused _ _ (still _ _ _ _ refl c.reserve.ensures.items c.self.view_is)

pub invariant_of-self-in_err-shared : goal.invariant_of-self-in_err-shared
invariant_of-self-in_err-shared g c = (
  still_lease _ _ _ refl c.reserve.ensures.items c.self.invariant.0,
  still_steady _ _ _ c.reserve.ensures.items c.self.invariant.1,
)

pub returns-in_err-shared-clause-ok : goal.returns-in_err-shared-clause-ok
returns-in_err-shared-clause-ok g c = no_step _ _ c.from_residual-in_err-shared.ensures.0

pub returns-in_err-shared-clause-unchanged : goal.returns-in_err-shared-clause-unchanged
returns-in_err-shared-clause-unchanged g c = refused _ _ (still _ _ _ _ refl c.reserve.ensures.items c.self.view_is)

pub invariant_of-self-in_err-tally : goal.invariant_of-self-in_err-tally
invariant_of-self-in_err-tally g c = (
  still_lease _ _ _ c.in_err-tally.ensures.unchanged c.reserve.ensures.items c.self.invariant.0,
  still_steady _ _ _ c.reserve.ensures.items c.self.invariant.1,
)

pub returns-in_err-tally-clause-ok : goal.returns-in_err-tally-clause-ok
returns-in_err-tally-clause-ok g c = no_step _ _ c.from_residual-in_err-tally.ensures.0

pub returns-in_err-tally-clause-unchanged : goal.returns-in_err-tally-clause-unchanged
returns-in_err-tally-clause-unchanged g c = refused _ _ (still _ _ _ _ c.in_err-tally.ensures.unchanged c.reserve.ensures.items c.self.view_is)

pub invariant_of-self-2 : goal.invariant_of-self-2
invariant_of-self-2 g c = (
  lease_grows _ c.in_ok-shared.shared c.in_ok-tally.tally (arc_value c.step_unshared.new.road) _ _ c.new-dice.ensures.key c.new-dice.ensures.road c.new-dice.ensures.step (rw (c.in_ok-shared.ensures, ← c.get-rule.ensures) c.in_ok-tally.ensures.next)
      (grown _ _ _ _ c.push_reserved.ensures.items c.reserve.ensures.items) c.self.invariant.0,
  λ is. rw (c.push_reserved.ensures.items, c.in_ok-shared.ensures, ← c.deref.ensures.value) (c.is_still_steady-is_steady.ensures is c.in_ok-tally.tally),
)

pub returns-clause-ok : goal.returns-clause-ok
returns-clause-ok g c =
    has_stepped _ _ c.args.rule.now c.in_ok-shared.shared c.in_ok-tally.tally (arc_value c.step_unshared.new.road) _ _ c.self.view_is c.in_ok-shared.ensures c.new-dice.ensures.key c.new-dice.ensures.road c.new-dice.ensures.step (rw (c.in_ok-shared.ensures, ← c.get-rule.ensures) c.in_ok-tally.ensures.next)
    (grown _ _ _ _ c.push_reserved.ensures.items c.reserve.ensures.items)
