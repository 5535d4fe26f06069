use Rattle.trlab_book.proofs.LeasesEnd as lemmas
use Rattle.trlab_book.proofs.laws.leases_end.Goals as goal

pub returns : goal.returns
returns c = lemmas.leases_end
