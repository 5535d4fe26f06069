use Rattle.trlab_step.proofs.run.Run.road.Goals as goal

pub returns-clause-run : goal.returns-clause-run
returns-clause-run c = rw (← c.self.view_is) (c.self.inside.sum, c.self.invariant.comes)
