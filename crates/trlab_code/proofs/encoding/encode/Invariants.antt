use Rattle.std.proofs.Common.{◌≡◌, ◌++◌, take, length, flat_map}
use Rattle.trlab_code.specs.{Program.version_of, Encoding.{header, instr_bytes}}
use Rattle.trlab_code.proofs.encoding.encode.Given as goal

abbrev pub invariant-loop-instr : goal.invariant-loop-instr
invariant-loop-instr l =
    l.bytes.items ≡ header (version_of l.code) l.code.kind (length l.code.instrs) ++ flat_map instr_bytes (take l.instr-index l.instrs)
