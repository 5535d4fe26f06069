use Rattle.trlab_campaign.proofs.{Endings.engine_ends_among, Shown.each_of_every_one}
use Rattle.trlab_campaign.proofs.for_embedders.run_job_text.Goals as goal

pub returns : goal.returns
returns g c =
    let ends = rw (c.new.ensures.every, c.new.ensures.from) at c.run_shown_text.ensures in
    engine_ends_among g.S.Source g.K.Sink _ _ _ _ _ _ _ each_of_every_one ends
