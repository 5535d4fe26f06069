use Rattle.trlab_library_tests.proofs.book.desks.+at_desks+fn-at_desks-join+arg3.Given as goal

abbrev pub decreases-at_desks : goal.decreases-at_desks
decreases-at_desks g l = l.threads

abbrev pub decreases-join+arg3 : goal.decreases-join+arg3
decreases-join+arg3 g l = l.others
