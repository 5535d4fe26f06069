use Rattle.std.proofs.Common.{rules}
use Rattle.trlab_step.proofs.step.move_after_lane_change.Goals as goal

pub returns-clause-moved : goal.returns-clause-moved
returns-clause-moved g c = rw c.replace.ensures.after c.in_ok-tally.ensures.moved

pub returns-in_err-tally-clause-unchanged : goal.returns-in_err-tally-clause-unchanged
returns-in_err-tally-clause-unchanged g c = search rules
