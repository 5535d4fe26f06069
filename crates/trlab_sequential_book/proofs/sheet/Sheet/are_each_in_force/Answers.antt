use Rattle.std.proofs.Common.{◌≡◌, ◌∙◌, ap, arith, refl, subst, Some}
use Rattle.trlab_step.specs.Run.{in_force}
use Rattle.trlab_sequential_book.proofs.InForce.{all_in_force, one_more_in_force}
use Rattle.trlab_sequential_book.proofs.sheet.Sheet.are_each_in_force.Goals as goal

pub loop-ran-preserved : goal.loop-ran-preserved
loop-ran-preserved c =
    let at = c.loop-ran.invariant.0 in
    let here = c.entry_in_force-entry.ensures.rule ∙ ap Some (c.equals.ensures.0 c.if-not-equals.false) in (
      omega arith,
      one_more_in_force c.args.self.now c.args.first c.args.applied.now c.loop-ran.ran-index c.ran-item.result c.loop-ran.invariant.1 c.loop-ran-test.true c.ran-item.is
          (subst (λ s. in_force c.args.self.now s ≡ Some c.ran-item.result.rule) at here),
    )

pub returns : goal.returns
returns c =
    let all = c.loop-ran-test.false in
    (λ _. all_in_force c.args.self.now c.args.first c.args.applied.now c.loop-ran.ran-index c.loop-ran.invariant.1 (omega arith), λ _. refl)
