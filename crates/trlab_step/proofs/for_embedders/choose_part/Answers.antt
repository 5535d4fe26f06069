use Rattle.std.proofs.{lemmas.Result.err_from_is_err_and, Common.subst}
use Rattle.trlab_step.{specs.Answers.IsCrossingsPart, proofs.AskedCars.same_dice}
use Rattle.trlab_step.proofs.for_embedders.choose_part.Goals as goal

pub compute_crossings-requires-clause-rising : goal.compute_crossings-requires-clause-rising
compute_crossings-requires-clause-rising c = c.requires.rising

pub compute_crossings-requires-clause-in_range : goal.compute_crossings-requires-clause-in_range
compute_crossings-requires-clause-in_range c = c.requires.in_range

pub compute_crossings-requires-clause-two_lanes : goal.compute_crossings-requires-clause-two_lanes
compute_crossings-requires-clause-two_lanes c = c.requires.two_lanes

pub returns-in_err-compute_crossings : goal.returns-in_err-compute_crossings
returns-in_err-compute_crossings c = let p = err_from_is_err_and c.from_residual.result c.from_residual.ensures.1 in rw p.1 tt

pub returns : goal.returns
returns c =
    let dice = same_dice c.new.result _ _ _ c.new.ensures.key c.new.ensures.road c.new.ensures.step in
    subst (λ d. IsCrossingsPart c.args.change.now d c.args.road.now c.args.from c.args.to c.compute_crossings.new.crosses.items) dice c.in_ok-compute_crossings.ensures
