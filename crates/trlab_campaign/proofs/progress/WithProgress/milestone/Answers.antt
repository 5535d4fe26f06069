use Rattle.std.proofs.Common.{rules}
use Rattle.trlab_campaign.proofs.progress.WithProgress.milestone.Goals as goal

pub milestone_between-requires-clause-at_hand : goal.milestone_between-requires-clause-at_hand
milestone_between-requires-clause-at_hand g c = search rules

pub returns-clause-percent : goal.returns-clause-percent
returns-clause-percent g c = search rules

pub returns-clause-silent : goal.returns-clause-silent
returns-clause-silent g c = search rules
