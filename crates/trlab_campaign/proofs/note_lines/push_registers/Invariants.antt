use Rattle.std.proofs.Common.{◌≡◌, ◌++◌, flat_map, drop}
use Rattle.trlab_asm.specs.declared.names.TheConstants.{REGISTERS}
use Rattle.trlab_campaign.proofs.NoteTables.{marked_text}
use Rattle.trlab_campaign.proofs.note_lines.push_registers.Given as goal

abbrev pub invariant-loop-i : goal.invariant-loop-i
invariant-loop-i l = l.out.items ++ flat_map (marked_text l.note) (drop l.i REGISTERS) ≡ l.fn.out.items ++ flat_map (marked_text l.note) REGISTERS
