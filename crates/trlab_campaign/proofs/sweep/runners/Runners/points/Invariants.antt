use Rattle.std.proofs.Common.{◌-◌, length}
use Rattle.trlab_strands.specs.Tokens.{name_of}
use Rattle.trlab_campaign.specs.SweepOutput.{AreFirstPoints}
use Rattle.trlab_campaign.proofs.sweep.runners.Runners.points.Given as goal

abbrev pub ghosts-add_batch : goal.ghosts-add_batch
ghosts-add_batch g a = record { name = name_of a.blank }

abbrev pub invariant-loop-sweep : goal.invariant-loop-sweep
invariant-loop-sweep g l = AreFirstPoints l.self.sweep.now l.points.items

abbrev pub decreases-loop-sweep : goal.decreases-loop-sweep
decreases-loop-sweep g l = length l.self.sweep.now.cars - length l.points.items
