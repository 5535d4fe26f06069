use Rattle.trlab_texts.proofs.Places.{behind_prefix}
use Rattle.trlab_texts.proofs.excerpt.Excerpt.after.Goals as goal

pub invariant_of-result : goal.invariant_of-result
invariant_of-result c = behind_prefix c.self.inside.line.now c.self.inside.bytes.now c.args.prefix.now c.in_ok-bytes.bytes.now c.self.inside.at c.self.invariant c.in_ok-bytes.ensures
