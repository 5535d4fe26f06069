use Rattle.std.proofs.Common.{◌∙◌}
use Rattle.std.specs.Str.Parse.{ParsesUnsigned, ExplainsUnsignedError, HasUnsignedDigitsIfOk}
use Rattle.clap.{specs.Words.{found_of, rows_of}, proofs.WalkLemmas.one_text-rows}
use Rattle.trlab_command_line.proofs.Matches.{some_number, the_number}
use Rattle.trlab_command_line.proofs.arguments.matches.option_number.Goals as goal

pub returns-clause-number : goal.returns-clause-number
returns-clause-number c =
    let found = found_of c.args.matches.now in
    let option = c.args.option.now in
    (the_number _ (λ bs r. ParsesUnsigned 32 10 bs r × ExplainsUnsignedError 10 bs r × HasUnsignedDigitsIfOk bs r) (λ u x g. g.0) option (rows_of found) c.requires.0 c.requires.1 c.requires.3 (c.requires.2, c.requires.4) c.get_one.result
    (λ t is. c.get_one.ensures.value t (one_text-rows found option ∙ is)) c.in-Some.number c.in-Some.is).0

pub returns-clause-in_range : goal.returns-clause-in_range
returns-clause-in_range c = λ least most v fits has.
    let found = found_of c.args.matches.now in
    let option = c.args.option.now in
    (the_number _ (λ bs r. ParsesUnsigned 32 10 bs r × ExplainsUnsignedError 10 bs r × HasUnsignedDigitsIfOk bs r) (λ u x g. g.0) option (rows_of found) least most fits (v, has) c.get_one.result
    (λ t is. c.get_one.ensures.value t (one_text-rows found option ∙ is)) c.in-Some.number c.in-Some.is).1

pub unreachable-requires : goal.unreachable-requires
unreachable-requires c =
    let found = found_of c.args.matches.now in
    let option = c.args.option.now in
    some_number _ (λ bs r. ParsesUnsigned 32 10 bs r × ExplainsUnsignedError 10 bs r × HasUnsignedDigitsIfOk bs r) (λ u x g. g.0) option (rows_of found) c.requires.0 c.requires.1 c.requires.3 (c.requires.2, c.requires.4) c.get_one.result
    (λ t is. c.get_one.ensures.value t (one_text-rows found option ∙ is)) c.in-None.is
