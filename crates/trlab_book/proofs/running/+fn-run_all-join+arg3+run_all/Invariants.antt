use Rattle.trlab_book.proofs.running.+fn-run_all-join+arg3+run_all.Given as goal

abbrev pub decreases-join+arg3 : goal.decreases-join+arg3
decreases-join+arg3 g l = l.others

abbrev pub decreases-run_all : goal.decreases-run_all
decreases-run_all g l = l.runners
