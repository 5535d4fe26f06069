use Rattle.trlab_segments.proofs.pool.ask.PoolExecutor.crossings.Goals as goal

pub returns-clause-crossings : goal.returns-clause-crossings
returns-clause-crossings g c = c.ask.ensures.answers

pub returns-clause-seen : goal.returns-clause-seen
returns-clause-seen g c = c.ask.ensures.seen
