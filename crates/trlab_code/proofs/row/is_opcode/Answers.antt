use Rattle.std.proofs.Common.{rules}
use Rattle.trlab_code.proofs.Opcodes.{opcode_of_one}
use Rattle.trlab_code.proofs.row.is_opcode.Goals as goal

pub returns-then-byte-ge1 : goal.returns-then-byte-ge1
returns-then-byte-ge1 c = (λ t. opcode_of_one c.args.byte c.if-byte-ge1.true (search rules), search rules)
