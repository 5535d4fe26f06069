use Rattle.std.proofs.Common.{◌≡◌, ◌-◌, length}
use Rattle.trlab_machine.{specs.Stored.number_in, proofs.OnWay.OnWay}
use Rattle.trlab_machine.proofs.for_embedders.run.Given as goal

abbrev pub invariant-run : goal.invariant-run
invariant-run l = record { eight : length l.registers ≡ 8; car : OnWay l.fn.kind l.instrs l.view l.words l.fn.budget l.pc (number_in l.registers) l.steps }

abbrev pub decreases-run : goal.decreases-run
decreases-run l = l.fn.budget - l.steps
