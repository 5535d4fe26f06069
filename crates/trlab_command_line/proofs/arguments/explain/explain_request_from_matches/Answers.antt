use Rattle.std.proofs.Common.{◌≡◌, ◌∙◌, ap, codes, inl, inr, subst, sym}
use Rattle.clap.{specs.{Kinds.HasKind, Words.{found_of, rows_of}}, proofs.WalkLemmas.first_value-rows}
use Rattle.trlab_command_line.specs.CommandLine.{request_from_matches, error_kinds}
use Rattle.trlab_command_line.proofs.Matches.{explained_same}
use Rattle.trlab_command_line.proofs.arguments.explain.explain_request_from_matches.Goals as goal

pub returns-in-Ok-clause-answer : goal.returns-in-Ok-clause-answer
returns-in-Ok-clause-answer c =
    sym (explained_same (rows_of (found_of c.args.matches.now)) _ _ _ _ c.explain_request.ensures (c.get_str-what.ensures ∙ first_value-rows (found_of c.args.matches.now) (codes "what")) c.argument_number-number.ensures c.is_flag_given.ensures) ∙ c.in-Ok.is

pub returns-in-Ok-clause-fault : goal.returns-in-Ok-clause-fault
returns-in-Ok-clause-fault c =
    ap error_kinds (sym (explained_same (rows_of (found_of c.args.matches.now)) _ _ _ _ c.explain_request.ensures (c.get_str-what.ensures ∙ first_value-rows (found_of c.args.matches.now) (codes "what")) c.argument_number-number.ensures c.is_flag_given.ensures) ∙ c.in-Ok.is)

pub returns-in_ok-explain_error-in-Err-clause-fault : goal.returns-in_ok-explain_error-in-Err-clause-fault
returns-in_ok-explain_error-in-Err-clause-fault c =
    let same : c.explain_request.result ≡ request_from_matches (rows_of (found_of c.args.matches.now)) =
    explained_same (rows_of (found_of c.args.matches.now)) _ _ _ _ c.explain_request.ensures (c.get_str-what.ensures ∙ first_value-rows (found_of c.args.matches.now) (codes "what")) c.argument_number-number.ensures c.is_flag_given.ensures in
    subst (λ r. HasKind (error_kinds r) c.in_ok-explain_error-in-Err.field-0) (sym (sym same ∙ c.in-Err.is)) (inr (inl c.in_ok-explain_error-in-Err.ensures))
