use Rattle.std.proofs.Common.{ap}
use Rattle.trlab_step.{specs.Run.Progress, proofs.OnTheWay.like_start}
use Rattle.trlab_sequential_book.proofs.snapshot.Snapshot.road.Goals as goal

pub returns-clause-run : goal.returns-clause-run
returns-clause-run c = rw (c.get.ensures, ← c.self.view_is) (c.self.inside.tally, c.self.invariant.comes)

pub returns-clause-value : goal.returns-clause-value
returns-clause-value c = rw c.get.ensures (ap (λ (seen : Progress). seen.road) c.self.view_is)

pub returns-clause-like : goal.returns-clause-like
returns-clause-like c = rw (c.get.ensures, ← c.self.view_is) (like_start _ _ _ _ c.self.inside.tally c.self.invariant.legal c.self.invariant.suits c.self.invariant.comes)
