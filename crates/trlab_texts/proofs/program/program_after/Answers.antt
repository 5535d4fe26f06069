use Rattle.std.proofs.Common.{arith}
use Rattle.trlab_lines.specs.Lines.{lines_of}
use Rattle.trlab_texts.proofs.FaultLines.{line_within}
use Rattle.trlab_texts.proofs.program.program_after.Goals as goal

pub overflow_cast-fault : goal.overflow_cast-fault
overflow_cast-fault c = omega (arith, line_within c.args.kind (lines_of c.args.text.now) c.in-Err.fault c.in-Err.ensures.reported, c.requires)

pub overflow_add-first : goal.overflow_add-first
overflow_add-first c = omega (arith, line_within c.args.kind (lines_of c.args.text.now) c.in-Err.fault c.in-Err.ensures.reported, c.requires)
