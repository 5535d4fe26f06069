use Rattle.trlab_book.proofs.RefusedLeases as lemmas
use Rattle.trlab_book.proofs.laws.leases_refused_to_runners_are_not_out.Goals as goal

pub returns : goal.returns
returns c = lemmas.leases_refused_to_runners_are_not_out
