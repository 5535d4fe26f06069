-- The commands of the command line.
use Rattle.std.proofs.Common.{◌≡◌, ◌∙◌, ap, ap₂, Result, Ok, Err, IfOk, MatchResult}
use Rattle.clap.specs.Words.{App, with_subcommand}

-- a program and one of its commands, as they are built
pub added : {C E : Type 0} (command : Result C E) (app : C → App) (old made new : App) {before : App} → old ≡ before
    → MatchResult command (λ c. new ≡ with_subcommand old (app c).top) (λ _. ⊥)
    → IfOk command (λ c. app c ≡ made) → new ≡ with_subcommand before made.top
added (Ok c) app old made new known is same = is ∙ ap₂ with_subcommand known (ap (λ (a : App). a.top) same)
added (Err e) app old made new known is same = absurd is
