use Rattle.std.proofs.Common.{arith}
use Rattle.trlab_words.proofs.chance.Chance.new.Goals as goal

pub invariant_of-result : goal.invariant_of-result
invariant_of-result c = omega arith
