-- Programs are equal if their kinds and instructions are equal.
use Rattle.std.proofs.Common.{◌≡◌}
use Rattle.trlab_code.specs.Program.{Program}

pub program_same : (p q : Program) → p.kind ≡ q.kind → p.instrs ≡ q.instrs → p ≡ q
program_same p q e f = λ i. record { kind = e i; instrs = f i }
