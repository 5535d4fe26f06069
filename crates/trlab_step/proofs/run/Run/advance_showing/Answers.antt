use Rattle.std.proofs.Common.{◌≡◌, ◌∙◌, ℕ, List, ap, refl, arith, add-one, subst, nat_le, if◌then◌else◌}
use Rattle.std.proofs.{Common.le-leb, lemmas.{Result.err_from_is_err_and, Bool.lt-leb}}
use Rattle.trlab_step.specs.{Run.{Progress, tally_sum}, Answers.dice_of, declared.tally.StepTally.StepTally}
use Rattle.trlab_step.{specs.Next.IsNext, proofs.OnTheWay.{rule_here, room_for, counts_fit}}
use Rattle.trlab_step.proofs.{AskedCars.same_dice, run.Run.advance_showing.Goals.{then-self, else-self}}
use Rattle.trlab_step.proofs.run.Run.advance_showing.Goals as goal
use Rattle.trlab_machine.specs.declared.dice.Dice.{Dice}
use Rattle.trlab_road.specs.Cells.{Cells}
use Rattle.trlab_rules.specs.Rules.{Programs}

-- the step with the dice of the run
by_dice_of : (dice : Dice) (key : List ℕ) (number step : ℕ) (rule : Programs) (road next : Cells) (tally : StepTally) → dice.key ≡ key → dice.road ≡ number → dice.step ≡ step
    → IsNext rule dice road next tally → IsNext rule (dice_of key number step) road next tally
by_dice_of dice key number step rule road next tally a b d is = subst (λ (one : Dice). IsNext rule one road next tally) (same_dice dice key number step a b d) is

pub take_step-requires : goal.take_step-requires
take_step-requires g c =
    let suits = rule_here _ c.in_force-rule.result.now c.self.invariant c.in_force-rule.ensures in
    record { ready = c.requires.ready; lanes = suits.two_lanes }

pub tally_sum-self-inside-requires-clause-distance :
    goal.tally_sum-self-inside-requires-clause-distance
tally_sum-self-inside-requires-clause-distance g c =
    let room = room_for _ c.in_force-rule.result.now c.take_step.new.road c.in_ok-tally.tally c.self.invariant c.in_ok-tally.ensures.legal (by_dice_of c.new-dice.result c.self.inside.key.0 c.self.inside.number c.self.inside.step c.in_force-rule.result.now c.self.inside.road c.take_step.new.road c.in_ok-tally.tally c.new-dice.ensures.key c.new-dice.ensures.road c.new-dice.ensures.step c.in_ok-tally.ensures.next) in
    (counts_fit _ _ _ room (ap (λ (run : Progress). run.step) c.self.view_is) c.requires.steps).0

pub tally_sum-self-inside-requires-clause-stopped :
    goal.tally_sum-self-inside-requires-clause-stopped
tally_sum-self-inside-requires-clause-stopped g c =
    let room = room_for _ c.in_force-rule.result.now c.take_step.new.road c.in_ok-tally.tally c.self.invariant c.in_ok-tally.ensures.legal (by_dice_of c.new-dice.result c.self.inside.key.0 c.self.inside.number c.self.inside.step c.in_force-rule.result.now c.self.inside.road c.take_step.new.road c.in_ok-tally.tally c.new-dice.ensures.key c.new-dice.ensures.road c.new-dice.ensures.step c.in_ok-tally.ensures.next) in
    (counts_fit _ _ _ room (ap (λ (run : Progress). run.step) c.self.view_is) c.requires.steps).1

pub tally_sum-self-inside-requires-clause-changes :
    goal.tally_sum-self-inside-requires-clause-changes
tally_sum-self-inside-requires-clause-changes g c =
    let room = room_for _ c.in_force-rule.result.now c.take_step.new.road c.in_ok-tally.tally c.self.invariant c.in_ok-tally.ensures.legal (by_dice_of c.new-dice.result c.self.inside.key.0 c.self.inside.number c.self.inside.step c.in_force-rule.result.now c.self.inside.road c.take_step.new.road c.in_ok-tally.tally c.new-dice.ensures.key c.new-dice.ensures.road c.new-dice.ensures.step c.in_ok-tally.ensures.next) in
    (counts_fit _ _ _ room (ap (λ (run : Progress). run.step) c.self.view_is) c.requires.steps).2

pub invariant_of-self-2 : goal.invariant_of-self-2
invariant_of-self-2 g c =
    let counted : c.if-self.self ≡ (if nat_le c.self.inside.warm c.self.inside.step then tally_sum c.self.inside.sum c.in_ok-tally.tally else c.self.inside.sum) = elim c.if-self.branch [
      | then-self w ↦ rw (le-leb c.self.inside.warm c.self.inside.step w.if-self.true) (w.self-is ∙ w.tally_sum-self-inside.ensures)
      | else-self w ↦ rw (lt-leb c.self.inside.warm c.self.inside.step w.if-self.false) w.self-is
    ] in
    record {
      legal = c.self.invariant.legal;
      suits = c.self.invariant.suits;
      comes = rw add-one (
        c.self.inside.road,
        c.self.inside.sum,
        c.in_force-rule.result.now,
        c.in_ok-tally.tally,
        c.self.invariant.comes,
        record { under = c.in_force-rule.ensures; next = by_dice_of c.new-dice.result c.self.inside.key.0 c.self.inside.number c.self.inside.step c.in_force-rule.result.now c.self.inside.road c.take_step.new.road c.in_ok-tally.tally c.new-dice.ensures.key c.new-dice.ensures.road c.new-dice.ensures.step c.in_ok-tally.ensures.next; counted = counted },
      );
    }

pub returns-clause-run : goal.returns-clause-run
returns-clause-run g c = rw (← c.self.view_is) (c.self.inside.sum, c.self.invariant.comes)

pub returns-in_err-tally-clause-run : goal.returns-in_err-tally-clause-run
returns-in_err-tally-clause-run g c = rw (← c.self.view_is) (c.self.inside.sum, c.self.invariant.comes)

pub invariant_of-self : goal.invariant_of-self
invariant_of-self g c = rw c.in_err-tally.ensures.unchanged c.self.invariant

pub returns-in_err-tally-clause-on : goal.returns-in_err-tally-clause-on
returns-in_err-tally-clause-on g c = let p = err_from_is_err_and c.from_residual.result c.from_residual.ensures.1 in rw p.1 tt

pub returns-in_err-tally-clause-seen : goal.returns-in_err-tally-clause-seen
returns-in_err-tally-clause-seen g c = rw (← c.self.view_is) c.take_step.ensures.seen

pub returns-in_err-tally-clause-unchanged : goal.returns-in_err-tally-clause-unchanged
returns-in_err-tally-clause-unchanged g c = let p = err_from_is_err_and c.from_residual.result c.from_residual.ensures.1 in rw (p.1, c.in_err-tally.ensures.unchanged) c.self.view_is

pub overflow_add-self : goal.overflow_add-self
overflow_add-self g c =
    let early = c.requires.steps in
    let same : c.self.inside.step ≡ c.args.self.now.step = ap (λ (run : Progress). run.step) c.self.view_is in
    omega (arith, early, same)

pub returns-clause-on : goal.returns-clause-on
returns-clause-on g c = rw (← c.self.view_is) (record { same_seed = refl; same_sheet = refl; next_step = refl })

pub returns-clause-seen : goal.returns-clause-seen
returns-clause-seen g c = rw (← c.self.view_is) c.take_step.ensures.seen
