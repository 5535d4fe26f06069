use Rattle.std.proofs.Common.{◌≡◌, ◌*◌, take, drop, vec_len, All, flat_map}
use Rattle.trlab_code.specs.{Program.IsInRange, Encoding.instr_bytes, Faults.IsValidBefore}
use Rattle.trlab_code.proofs.encoding.read_instrs.Given as goal
use Rattle.trlab_bounds.specs.declared.programs.TheConstants.{HEADER_BYTES, INSTR_BYTES}

abbrev pub invariant-loop-pc : goal.invariant-loop-pc
invariant-loop-pc l = record {
  before : IsValidBefore l.bytes l.pc;
  length : vec_len l.instrs ≡ l.pc;
  in_range : All IsInRange l.instrs.items;
  spelt : flat_map instr_bytes l.instrs.items ≡ take (INSTR_BYTES * l.pc) (drop HEADER_BYTES l.bytes);
}
