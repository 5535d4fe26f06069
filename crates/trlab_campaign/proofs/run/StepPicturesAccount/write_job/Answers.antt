use Rattle.std.proofs.Common.{ap, refl}
use Rattle.trlab_jobs.specs.{Job.Job, Stored.IsStoredJob}
use Rattle.trlab_campaign.proofs.run.StepPicturesAccount.write_job.Goals as goal

pub returns : goal.returns
returns g c =
    let stored : IsStoredJob c.args.job = rw (← c.job.view_is) c.job.invariant in
    record {
      wrote = c.write_run-written.ensures.wrote c.args.job stored c.run_of_job-run.ensures (ap (λ (job : Job). job.steps) c.job.view_is);
      writer = c.write_run-written.ensures.writer;
    }

pub write_run-written-requires-clause-start : goal.write_run-written-requires-clause-start
write_run-written-requires-clause-start g c = rw c.run_of_job-run.ensures refl
