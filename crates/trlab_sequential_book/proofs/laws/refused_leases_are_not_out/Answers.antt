use Rattle.trlab_sequential_book.proofs.Refusals as lemmas
use Rattle.trlab_sequential_book.proofs.laws.refused_leases_are_not_out.Goals as goal

pub returns : goal.returns
returns c = lemmas.refused_leases_are_not_out
