use Rattle.std.proofs.Common.{◌≡◌}
use Rattle.trlab_book.specs.Desks.{part_count}
use Rattle.trlab_campaign.proofs.sweep.runners.Runners.submit.Given as goal

abbrev pub invariant-loop-job : goal.invariant-loop-job
invariant-loop-job g l = part_count l.desk ≡ part_count l.initial.desk
