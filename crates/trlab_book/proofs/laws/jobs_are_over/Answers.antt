use Rattle.trlab_book.proofs.JobsDone as lemmas
use Rattle.trlab_book.proofs.laws.jobs_are_over.Goals as goal

pub returns : goal.returns
returns c = record { over = lemmas.jobs_are_over; done = lemmas.all_steps_are_done }
