use Rattle.trlab_words.proofs.key.Key.prepare.Goals as goal

pub invariant_of-result : goal.invariant_of-result
invariant_of-result c = (c.read_key_words-key_words.ensures.small, rw (c.new.ensures.road, c.new.ensures.step) c.new.ensures.starts)
