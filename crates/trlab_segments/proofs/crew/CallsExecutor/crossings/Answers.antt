use Rattle.trlab_segments.proofs.crew.CallsExecutor.crossings.Goals as goal

pub returns-clause-crossings : goal.returns-clause-crossings
returns-clause-crossings g c = (c.requires.ready.1 c.args.alloc _ c.args.change c.args.dice c.requires.two_lanes).1 _ c.in_ok-answers.ensures

pub returns-clause-seen : goal.returns-clause-seen
returns-clause-seen g c = c.observe.ensures
