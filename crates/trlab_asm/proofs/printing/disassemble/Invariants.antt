use Rattle.std.proofs.Common.{◌≡◌, ◌++◌, take, drop, All}
use Rattle.trlab_asm.specs.Canonical.{text_from, canonical_text}
use Rattle.trlab_code.specs.Laws.{FitsIn32Bits}
use Rattle.trlab_asm.proofs.printing.disassemble.Given as goal

abbrev pub invariant-loop-pc : goal.invariant-loop-pc
invariant-loop-pc l = record {
  printed : l.text.items ++ text_from l.instrs l.pc (drop l.pc l.instrs) ≡ canonical_text l.instrs;
  words : All FitsIn32Bits (take l.pc l.instrs);
}
