use Rattle.std.proofs.Common.{subst}
use Rattle.trlab_step.{specs.Next.IsStepResult, proofs.AskedCars.same_dice}
use Rattle.trlab_step.proofs.for_embedders.step_road.Goals as goal

pub returns : goal.returns
returns c =
    let dice = same_dice c.new.result _ _ _ c.new.ensures.key c.new.ensures.road c.new.ensures.step in
    subst (λ d. IsStepResult c.args.rule.now d c.args.road.now c.step_road_by.result) dice c.step_road_by.ensures
