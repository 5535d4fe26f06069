use Rattle.trlab_jobs.proofs.{OneText.jobs_never, OneSweep.sweeps_never, OneCheck.checks_never}
use Rattle.trlab_jobs.proofs.laws.standard_rules_are_never_refused.Goals as goal

pub returns : goal.returns
returns c = record { job = jobs_never; sweep = sweeps_never; check = checks_never }
