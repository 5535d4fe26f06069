use Rattle.std.proofs.{Common.{rules, ◌≡◌, ◌∙◌, ap}, lemmas.Result.IfOk-weaker}
use Rattle.clap.specs.Simple.{app_of, app_of_fields}
use Rattle.trlab_command_line.specs.CommandLine.{program}
use Rattle.trlab_command_line.proofs.arguments.commands.program.Goals as goal

pub returns : goal.returns
returns c =
    let bare : app_of c.arg_required_else_help.result ≡ program = search rules in
    IfOk-weaker c.bin_name.result _ _ (λ command named. ap app_of_fields named.0 ∙ bare) c.bin_name.ensures
