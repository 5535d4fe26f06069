use Rattle.std.proofs.Common.{arith}
use Rattle.trlab_code.proofs.view.ChangeView.new.Goals as goal

pub invariant_of-result : goal.invariant_of-result
invariant_of-result c = grind arith
