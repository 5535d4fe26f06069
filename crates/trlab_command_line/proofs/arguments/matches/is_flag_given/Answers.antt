use Rattle.std.proofs.Common.{◌∙◌}
use Rattle.clap.{specs.Words.{found_of, rows_of}, proofs.WalkLemmas.one_text-rows}
use Rattle.trlab_command_line.proofs.Matches.{the_flag}
use Rattle.trlab_command_line.proofs.arguments.matches.is_flag_given.Goals as goal

pub returns : goal.returns
returns c =
    let found = found_of c.args.matches.now in
    let flag = c.args.flag.now in
    the_flag flag (rows_of found) c.get_flag.result c.requires
    (λ is. c.get_flag.ensures.value (one_text-rows found flag ∙ is)) (λ is. c.get_flag.ensures.other (one_text-rows found flag ∙ is))
