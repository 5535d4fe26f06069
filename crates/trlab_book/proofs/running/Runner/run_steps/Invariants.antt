use Rattle.std.proofs.Common.{◌≡◌, ◌⊎◌}
use Rattle.trlab_sequential_book.specs.Leases.{IsLease}
use Rattle.trlab_book.specs.{Desks.Goes, HeldLeases.Running}
use Rattle.trlab_book.proofs.running.Runner.run_steps.Given as goal

abbrev pub invariant-loop : goal.invariant-loop
invariant-loop g l =
    Goes (Running l.initial.lease) (Running l.lease) l.initial.desk l.desk
    × (((l.counter ≡ 0) × (l.lease ≡ l.initial.lease)) ⊎ IsLease l.initial.lease)
