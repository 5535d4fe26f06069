use Rattle.trlab_asm.proofs.Named.{registers, inputs, instructions}
use Rattle.trlab_asm.proofs.laws.names_are_those_printed.Goals as goal

pub returns : goal.returns
returns c = record { registers = registers; inputs = inputs; instructions = instructions }
