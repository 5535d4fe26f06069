use Rattle.std.proofs.{lemmas.Result.err_from_is_err_and, Common.subst}
use Rattle.trlab_step.{specs.Answers.IsSpeedsPart, proofs.AskedCars.same_dice}
use Rattle.trlab_step.proofs.for_embedders.move_part.Goals as goal

pub compute_speeds-requires-clause-rising : goal.compute_speeds-requires-clause-rising
compute_speeds-requires-clause-rising c = c.requires.rising

pub compute_speeds-requires-clause-in_range : goal.compute_speeds-requires-clause-in_range
compute_speeds-requires-clause-in_range c = c.requires.in_range

pub returns-in_err-compute_speeds : goal.returns-in_err-compute_speeds
returns-in_err-compute_speeds c = let p = err_from_is_err_and c.from_residual.result c.from_residual.ensures.1 in rw p.1 tt

pub returns-in_err-speeds : goal.returns-in_err-speeds
returns-in_err-speeds c = let p = err_from_is_err_and c.from_residual-in_err-speeds.result c.from_residual-in_err-speeds.ensures.1 in rw p.1 tt

pub returns : goal.returns
returns c =
    let dice = same_dice c.new.result _ _ _ c.new.ensures.key c.new.ensures.road c.new.ensures.step in
    rw (c.in_ok-speeds.ensures, c.deref.ensures.value) (subst (λ d. IsSpeedsPart c.args.motion.now d c.args.road.now c.args.from c.args.to c.compute_speeds.new.speeds.items) dice c.in_ok-compute_speeds.ensures)
