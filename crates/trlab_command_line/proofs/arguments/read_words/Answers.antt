use Rattle.std.proofs.Common.{rules, ◌∙◌, ◌∷◌, ap, map, string_bytes, subst, sym, Some, IfOk}
use Rattle.std.proofs.lemmas.Result.{IfOk-weaker}
use Rattle.clap.specs.{Kinds.{FailsBy, or_else}, Words.{fault_of, found_of, rows_of, subcommand_of}}
use Rattle.trlab_command_line.specs.CommandLine.{command_line, explain_arguments_fault, IsRequestOf}
use Rattle.trlab_command_line.proofs.Alone.{asks_its_name, explain_alone, run_alone, series_alone}
use Rattle.trlab_command_line.proofs.{Alone.sweep_alone, Matches.{fault_some, met, met_some}}
use Rattle.trlab_command_line.proofs.arguments.read_words.Goals as goal

pub request_of-requires : goal.request_of-requires
request_of-requires c =
    let words = map string_bytes c.args.arguments.now in
    let parsed = c.in_ok-matches.ensures in
    (met _ words c.in_ok-matches.matches c.subcommand.result c.in_ok-command_line.ensures parsed.matches parsed.kinds c.subcommand.ensures.name c.subcommand.ensures.rows _ c.in-Some.is).is_entered

pub unreachable-requires : goal.unreachable-requires
unreachable-requires c =
    let words = map string_bytes c.args.arguments.now in
    let parsed = c.in_ok-matches.ensures in
    met_some _ words c.in_ok-matches.matches c.subcommand.result c.in_ok-command_line.ensures parsed.matches parsed.kinds c.subcommand.ensures.name c.subcommand.ensures.rows c.in-None.is

pub returns : goal.returns
returns c =
    let words = map string_bytes c.args.arguments.now in
    let parsed = c.in_ok-matches.ensures in
    let got = met _ words c.in_ok-matches.matches c.subcommand.result c.in_ok-command_line.ensures parsed.matches parsed.kinds c.subcommand.ensures.name c.subcommand.ensures.rows _ c.in-Some.is in
    let rows = rows_of (found_of c.in-Some.entered.now) in
    let asked = c.request_of.ensures in
    let answer : IfOk c.request_of.result (IsRequestOf (subcommand_of command_line words)) = subst (λ o. IfOk c.request_of.result (IsRequestOf o)) (sym got.at) asked.answer in
    record {
      answer = answer;
      fault = subst (λ o. FailsBy (or_else (fault_of command_line words) (explain_arguments_fault o)) c.request_of.result) (sym got.at)
          (subst (λ f. FailsBy (or_else f (explain_arguments_fault (Some (c.in-Some.name.now, rows)))) c.request_of.result) (sym got.fault) asked.fault);
      counts = asked.counts;
      named = IfOk-weaker c.request_of.result _ _ (λ request a. (got.first.0, got.first.1 ∙ ap (λ n. n ∷ got.first.0) (asks_its_name _ _ request a))) asked.answer;
      run_alone = λ e. IfOk-weaker c.request_of.result _ _ (λ request a. run_alone request (subst (λ ws. IsRequestOf (subcommand_of command_line ws) request) e a)) answer;
      sweep_alone = λ e. IfOk-weaker c.request_of.result _ _ (λ request a. sweep_alone request (subst (λ ws. IsRequestOf (subcommand_of command_line ws) request) e a)) answer;
      series_alone = λ e. IfOk-weaker c.request_of.result _ _ (λ request a. series_alone request (subst (λ ws. IsRequestOf (subcommand_of command_line ws) request) e a)) answer;
      explain_alone = λ e. IfOk-weaker c.request_of.result _ _ (λ request a. explain_alone request (subst (λ ws. IsRequestOf (subcommand_of command_line ws) request) e a)) answer;
    }

pub returns-in_err-matches-clause-fault : goal.returns-in_err-matches-clause-fault
returns-in_err-matches-clause-fault c =
    let words = map string_bytes c.args.arguments.now in
    let has = fault_some _ words (explain_arguments_fault (subcommand_of command_line words)) c.in_err-matches.field-0.0 c.in_ok-command_line.ensures c.in_err-matches.ensures.kinds in
    search (rules, has)
