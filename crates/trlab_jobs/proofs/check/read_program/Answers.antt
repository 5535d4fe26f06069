use Rattle.std.proofs.Common.{arith}
use Rattle.trlab_texts.proofs.Cuts.{few_lines}
use Rattle.trlab_jobs.proofs.check.read_program.Goals as goal

pub program_after-requires : goal.program_after-requires
program_after-requires c = omega (arith, few_lines c.args.rest.now, c.requires)
