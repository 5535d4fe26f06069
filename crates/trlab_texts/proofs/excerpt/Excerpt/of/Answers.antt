use Rattle.trlab_texts.proofs.Places.{whole}
use Rattle.trlab_texts.proofs.excerpt.Excerpt.of.Goals as goal

pub invariant_of-result : goal.invariant_of-result
invariant_of-result c = whole c.args.line.now
