use Rattle.trlab_book.specs.{Desks.Goes, HeldLeases.Idle}
use Rattle.trlab_book.proofs.running.Runner.take_leases.Given as goal

abbrev pub invariant-loop : goal.invariant-loop
invariant-loop g l =
    (goal.iterator-loop g).can_next l.iterator' × (goal.iterator-loop g).is_finite l.iterator' × Goes Idle Idle l.initial.desk l.desk
