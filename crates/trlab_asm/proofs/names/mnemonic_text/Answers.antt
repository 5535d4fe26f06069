use Rattle.std.proofs.Common.{ap, sym}
use Rattle.trlab_asm.specs.Names.{mnemonic_text}
use Rattle.trlab_asm.proofs.names.mnemonic_text.Goals as goal

pub returns-in-Sub : goal.returns-in-Sub
returns-in-Sub c = ap mnemonic_text (sym c.in-Sub.is)
