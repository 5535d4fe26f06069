use Rattle.std.proofs.{Common.{◌∙◌, arith, refl}, Math.Bool.or-false, lemmas.Grind.common_steps}
use Rattle.std.proofs.lemmas.Result.{err_from_is_err_and}
use Rattle.trlab_campaign.proofs.WrittenBytes.{adds_kept, adds_none, adds_part, adds_whole, nothing_taken}
use Rattle.trlab_campaign.proofs.device.whole.write_text.Goals as goal

pub loop-done-init : goal.loop-done-init
loop-done-init g c = record { inside = omega arith; wrote = adds_none _; works = refl; flushed = refl }

pub loop-done-preserved : goal.loop-done-preserved
loop-done-preserved g c =
    let told = rw c.split_at.ensures.back at c.in_ok-count.ensures.bytes in
    let accepted = rw c.split_at.ensures.back at c.in_ok-count.ensures.accepts in
    record {
      inside = grind (arith, common_steps);
      wrote = adds_part _ _ _ c.args.text.now c.loop-done.done c.in_ok-count.count c.loop-done.invariant.wrote (record { accepted = accepted; told = told });
      works = c.in_ok-count.ensures.fails ∙ (or-false _ ∙ c.loop-done.invariant.works);
      flushed = c.in_ok-count.ensures.flushed ∙ c.loop-done.invariant.flushed;
    }

pub returns-in_err-count-clause-wrote : goal.returns-in_err-count-clause-wrote
returns-in_err-count-clause-wrote g c =
    let fault = err_from_is_err_and c.from_residual.result c.from_residual.ensures.1 in
    rw fault.1 (record { count = c.loop-done.done; prefix = adds_kept _ _ _ _ c.loop-done.invariant.wrote (nothing_taken _ _ c.in_err-count.ensures.accepts c.in_err-count.ensures.bytes) })

pub returns-clause-wrote : goal.returns-clause-wrote
returns-clause-wrote g c = adds_whole _ _ c.args.text.now c.loop-done.done c.loop-done.invariant.inside c.loop-done-test.false c.loop-done.invariant.wrote

pub returns-clause-fails : goal.returns-clause-fails
returns-clause-fails g c = rw or-false c.loop-done.invariant.works
