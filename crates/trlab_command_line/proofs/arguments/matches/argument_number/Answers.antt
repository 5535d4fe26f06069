use Rattle.std.proofs.Common.{◌∙◌}
use Rattle.std.specs.Str.Parse.{ParsesUnsigned, ExplainsUnsignedError, HasUnsignedDigitsIfOk}
use Rattle.clap.{specs.Words.{found_of, rows_of}, proofs.WalkLemmas.one_text-rows}
use Rattle.trlab_command_line.proofs.Matches.{the_number_in}
use Rattle.trlab_command_line.proofs.arguments.matches.argument_number.Goals as goal

pub returns : goal.returns
returns c =
    let found = found_of c.args.matches.now in
    let argument = c.args.argument.now in
    the_number_in _ (λ bs r. ParsesUnsigned 32 10 bs r × ExplainsUnsignedError 10 bs r × HasUnsignedDigitsIfOk bs r) (λ u x g. g.0) argument (rows_of found) c.get_one.result
    (λ is. c.get_one.ensures.none (one_text-rows found argument ∙ is)) (λ t is. c.get_one.ensures.value t (one_text-rows found argument ∙ is)) c.requires
