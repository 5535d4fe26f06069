use Rattle.std.proofs.Common.{refl}
use Rattle.trlab_rules.proofs.standard.vdr.Goals as goal

pub returns-clause-published : goal.returns-clause-published
returns-clause-published c = rw c.new.ensures.value (record { motion = c.in_ok-vdr_motion.ensures; change = refl })
