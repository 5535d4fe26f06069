use Rattle.std.proofs.{Common.{◌∙◌, ap, ap₂}, lemmas.Result.IfOk-weaker}
use Rattle.clap.specs.Words.{App, app_of, with_subcommand}
use Rattle.trlab_command_line.specs.CommandLine.{explain_command, run_command, series_command, sweep_command}
use Rattle.trlab_command_line.proofs.Commands.{added}
use Rattle.trlab_command_line.proofs.arguments.commands.command_line.Goals as goal

pub returns : goal.returns
returns c =
    let checks = c.in_ok-with_check.ensures ∙ ap₂ with_subcommand c.in_ok-program.ensures (ap (λ (a : App). a.top) c.bare_command.ensures.app) in
    let runs = added c.job_command-run.result app_of _ run_command _ checks c.in_ok-with_run.ensures c.job_command-run.ensures.app in
    let sweeps = added c.sweep_command.result app_of _ sweep_command _ runs c.in_ok-with_sweep.ensures c.sweep_command.ensures.app in
    let lists = added c.job_command-series.result app_of _ series_command _ sweeps c.in_ok-with_series.ensures c.job_command-series.ensures.app in
    IfOk-weaker c.with_command-5.result _ _ (λ command is. added c.explain_command.result app_of _ explain_command _ lists is c.explain_command.ensures.app) c.with_command-5.ensures
