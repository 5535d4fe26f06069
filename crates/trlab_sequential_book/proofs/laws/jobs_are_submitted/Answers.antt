use Rattle.trlab_sequential_book.proofs.Submitting.{jobs_are_submitted, snapshots_are_of_submits}
use Rattle.trlab_sequential_book.proofs.Submitting.{submits_have_their_numbers}
use Rattle.trlab_sequential_book.proofs.laws.jobs_are_submitted.Goals as goal

pub returns : goal.returns
returns c = record { submitted = jobs_are_submitted; one = submits_have_their_numbers; seen = snapshots_are_of_submits }
