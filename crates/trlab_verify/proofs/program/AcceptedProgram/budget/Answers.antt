use Rattle.trlab_verify.proofs.program.AcceptedProgram.budget.Goals as goal

pub returns-clause-safe : goal.returns-clause-safe
returns-clause-safe g c = rw (← c.self.view_is) c.self.invariant.safe
