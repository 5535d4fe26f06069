use Rattle.std.proofs.Common.{length, ◌∙◌, ap}
use Rattle.trlab_step.specs.Run.{at_start, Sheet}
use Rattle.trlab_jobs.specs.Job.{Job, seed_of, sheet_of}
use Rattle.trlab_campaign.proofs.Sheets.{later_rise, plain_sheet}
use Rattle.trlab_campaign.proofs.pooled.run_of_job.Goals as goal

pub new-requires : goal.new-requires
new-requires c = later_rise (length c.job.inside.road.lanes) c.job.inside.steps 0 c.job.inside.later.items c.job.invariant.later

pub new-requires-2 : goal.new-requires-2
new-requires-2 c = record { suits = rw c.new.ensures (plain_sheet _ c.job.invariant) }

pub returns : goal.returns
returns c =
    c.new-2.ensures
    ∙ (ap (λ (sheet : Sheet). at_start (seed_of (record { road = c.job.inside.road; key = c.job.inside.key.0; first = c.job.inside.first; later = c.job.inside.later.items; steps = c.job.inside.steps })) sheet) c.new.ensures
    ∙ ap (λ (job : Job). at_start (seed_of job) (sheet_of job)) c.job.view_is)
