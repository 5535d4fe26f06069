use Rattle.std.proofs.Common.{◌∙◌}
use Rattle.trlab_explain.proofs.PlainTokens.{number_stays}
use Rattle.trlab_explain.proofs.object.Object.number.Goals as goal

pub invariant_of-self : goal.invariant_of-self
invariant_of-self c = (
  c.u64.ensures.room.0 ∙ c.self.invariant.0,
  number_stays c.u64.result _ _ c.args.n c.ranges.n.fits c.u64.ensures.ok c.u64.ensures.err c.self.invariant.1,
)
