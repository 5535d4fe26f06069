use Rattle.trlab_segments.proofs.pool.ask.PoolExecutor.speeds.Goals as goal

pub returns-clause-speeds : goal.returns-clause-speeds
returns-clause-speeds g c = c.ask.ensures.answers

pub returns-clause-seen : goal.returns-clause-seen
returns-clause-seen g c = c.ask.ensures.seen
