use Rattle.trlab_campaign.proofs.Shown.{every_so_many_are_shown, every_step_from_start_is_each}
use Rattle.trlab_campaign.proofs.laws.steps_are_shown_apart.Goals as goal

pub returns : goal.returns
returns c = record { apart = every_so_many_are_shown; each = every_step_from_start_is_each }
