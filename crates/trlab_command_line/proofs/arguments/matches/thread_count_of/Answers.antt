use Rattle.std.proofs.Common.{arith}
use Rattle.trlab_bounds.specs.declared.runs.TheConstants.{MAX_WORKERS}
use Rattle.trlab_command_line.proofs.arguments.matches.thread_count_of.Goals as goal

pub option_number-requires : goal.option_number-requires
option_number-requires c = (1, MAX_WORKERS, c.requires.0, omega arith, c.requires.1)

pub returns : goal.returns
returns c =
    let within = c.option_number.ensures.in_range 1 MAX_WORKERS c.requires.0 (omega arith) c.requires.1 in
    record { number = c.option_number.ensures.number; at_least_one = within.0; at_most_max_workers = within.1 }
