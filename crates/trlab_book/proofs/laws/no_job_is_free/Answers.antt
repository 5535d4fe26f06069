use Rattle.trlab_book.proofs.FreeJobs as lemmas
use Rattle.trlab_book.proofs.laws.no_job_is_free.Goals as goal

pub returns : goal.returns
returns c = lemmas.no_job_is_free
