use Rattle.trlab_segments.proofs.crew.CallsExecutor.speeds.Goals as goal

pub returns-clause-speeds : goal.returns-clause-speeds
returns-clause-speeds g c = (c.requires.ready.0 c.args.alloc _ c.args.motion c.args.dice).1 _ c.in_ok-answers.ensures

pub returns-clause-seen : goal.returns-clause-seen
returns-clause-seen g c = c.observe.ensures
