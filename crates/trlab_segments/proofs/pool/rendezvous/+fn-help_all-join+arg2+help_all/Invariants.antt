use Rattle.trlab_segments.proofs.pool.rendezvous.+fn-help_all-join+arg2+help_all.Given as goal

abbrev pub decreases-join+arg2 : goal.decreases-join+arg2
decreases-join+arg2 g l = l.rest

abbrev pub decreases-help_all : goal.decreases-help_all
decreases-help_all g l = l.helpers
