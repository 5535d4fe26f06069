use Rattle.std.proofs.{Common.{◌∙◌, ◌++◌, [], ◌∷◌, take, ap, sym, arith, take_all}, lemmas.List.take_more}
use Rattle.trlab_step.proofs.for_embedders.speeds_to_u32.Goals as goal

pub loop-speed-init : goal.loop-speed-init
loop-speed-init c = c.in_ok-numbers.ensures.items

pub loop-speed-preserved : goal.loop-speed-preserved
loop-speed-preserved c =
    let speeds = c.args.speeds.now in
    let k = c.loop-speed.speed-index in
    c.in_ok-push.ensures.items ∙ ap (λ xs. xs ++ c.from.result ∷ []) c.loop-speed.invariant ∙ ap (λ x. take k speeds ++ x ∷ []) c.from.ensures ∙ sym (take_more speeds k 0 c.loop-speed-test.true)

pub returns : goal.returns
returns c = c.loop-speed.invariant ∙ take_all c.loop-speed.speed-index c.args.speeds.now (let past = c.loop-speed-test.false in omega (arith, past))
