use Rattle.std.proofs.Common.{subst}
use Rattle.trlab_machine.specs.declared.dice.Dice.{Dice}
use Rattle.trlab_step.{specs.Next.IsStepResult, proofs.AskedCars.same_dice}
use Rattle.trlab_segments.proofs.crew.step_shared.Goals as goal

pub returns : goal.returns
returns g c =
    let same = same_dice c.new-dice.result c.args.key.now.0 c.args.number c.args.step c.new-dice.ensures.key c.new-dice.ensures.road c.new-dice.ensures.step in
    let P : Dice → Type 0 = λ dice. IsStepResult c.args.rule.now dice c.args.road.now c.step_road_by.result in
    subst P same c.step_road_by.ensures
