use Rattle.trlab_jobs.proofs.lane.road_of.Goals as goal

pub returns-in-None-clause-reported : goal.returns-in-None-clause-reported
returns-in-None-clause-reported c = rw (c.in-None.is, ← c.bytes-picture.ensures) c.parse_pictures.ensures.reported

pub returns-in-Some-clause-reported : goal.returns-in-Some-clause-reported
returns-in-Some-clause-reported c = rw (c.in-Some.is, ← c.bytes-picture.ensures, ← c.bytes.ensures) (rw c.requires at c.parse_pictures-in-Some.ensures.reported)
