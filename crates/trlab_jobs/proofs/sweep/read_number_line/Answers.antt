use Rattle.trlab_texts.specs.Words.{name_and_space}
use Rattle.trlab_jobs.proofs.Ranges.{number_high, number_low}
use Rattle.trlab_jobs.proofs.sweep.read_number_line.Goals as goal

pub returns-clause-low : goal.returns-clause-low
returns-clause-low c = rw c.number_after.ensures (number_low (name_and_space c.args.name) c.args.line.now c.args.low c.args.high)

pub returns-clause-high : goal.returns-clause-high
returns-clause-high c = rw c.number_after.ensures (number_high (name_and_space c.args.name) c.args.line.now c.args.low c.args.high)
