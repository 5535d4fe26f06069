use Rattle.std.proofs.{Common.{◌∙◌, ◌++◌, [], ◌∷◌, get_or, ap, sym, arith, take_all}, lemmas.List.take_more}
use Rattle.trlab_step.proofs.for_embedders.speeds_to_bytes.Goals as goal

pub loop-speed-init : goal.loop-speed-init
loop-speed-init c = c.in_ok-bytes.ensures.items

pub overflow_cast-speed : goal.overflow_cast-speed
overflow_cast-speed c = let slow = c.requires c.loop-speed.speed-index c.loop-speed-test.true in omega (arith, slow)

pub loop-speed-preserved : goal.loop-speed-preserved
loop-speed-preserved c =
    let speeds = c.args.speeds.now in
    let k = c.loop-speed.speed-index in
    c.in_ok-push.ensures.items ∙ ap (λ xs. xs ++ get_or speeds k 0 ∷ []) c.loop-speed.invariant ∙ sym (take_more speeds k 0 c.loop-speed-test.true)

pub returns : goal.returns
returns c = c.loop-speed.invariant ∙ take_all c.loop-speed.speed-index c.args.speeds.now (let past = c.loop-speed-test.false in omega (arith, past))
