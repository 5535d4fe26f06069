use Rattle.trlab_jobs.proofs.OneCheck.{one_thing, something}
use Rattle.trlab_jobs.proofs.laws.check_text_has_one_result.Goals as goal

pub returns : goal.returns
returns c = record { some_result = something; one_result = one_thing }
