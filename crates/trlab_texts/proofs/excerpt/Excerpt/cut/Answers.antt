use Rattle.trlab_texts.proofs.Places.{before_cut, after_cut}
use Rattle.trlab_texts.proofs.excerpt.Excerpt.cut.Goals as goal

pub invariant_of-before : goal.invariant_of-before
invariant_of-before c = before_cut c.self.inside.line.now c.self.inside.bytes.now c.in_ok-front.front.now c.in_ok-front.back.now c.self.inside.at c.args.byte c.self.invariant c.in_ok-front.ensures

pub invariant_of-after : goal.invariant_of-after
invariant_of-after c = after_cut c.self.inside.line.now c.self.inside.bytes.now c.in_ok-front.front.now c.in_ok-front.back.now c.self.inside.at c.args.byte c.self.invariant c.in_ok-front.ensures
