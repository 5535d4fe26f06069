use Rattle.std.proofs.{Common.{◌∙◌, ◌||◌, ap₂}, lemmas.Result.IfOk-weaker}
use Rattle.clap.specs.Words.{with_rule}
use Rattle.trlab_command_line.proofs.arguments.commands.job_command.Goals as goal

pub returns-clause-app : goal.returns-clause-app
returns-clause-app c =
    let first = c.in_ok-arg.ensures.shape c.count_option.ensures.local ∙ ap₂ with_rule c.bare_command.ensures.app c.count_option.ensures.rule in
    let second = c.in_ok-arg-2.ensures.shape c.number_option.ensures.local ∙ ap₂ with_rule first c.number_option.ensures.rule in
    let third = c.in_ok-arg-3.ensures.shape c.workers_option.ensures.local ∙ ap₂ with_rule second c.workers_option.ensures.rule in
    IfOk-weaker c.arg-4.result _ _ (λ command added. added.shape c.progress_flag.ensures.local ∙ ap₂ with_rule third c.progress_flag.ensures.rule) c.arg-4.ensures

pub returns-clause-local : goal.returns-clause-local
returns-clause-local c =
    let first = c.in_ok-arg.ensures.globals ∙ ap₂ (λ a b. a || b) c.bare_command.ensures.local c.count_option.ensures.local in
    let second = c.in_ok-arg-2.ensures.globals ∙ ap₂ (λ a b. a || b) first c.number_option.ensures.local in
    let third = c.in_ok-arg-3.ensures.globals ∙ ap₂ (λ a b. a || b) second c.workers_option.ensures.local in
    IfOk-weaker c.arg-4.result _ _ (λ command added. added.globals ∙ ap₂ (λ a b. a || b) third c.progress_flag.ensures.local) c.arg-4.ensures
