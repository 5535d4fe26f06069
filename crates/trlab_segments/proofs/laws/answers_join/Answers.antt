use Rattle.trlab_segments.proofs.Borders.{join}
use Rattle.trlab_segments.proofs.laws.answers_join.Goals as goal

pub returns-clause-speeds : goal.returns-clause-speeds
returns-clause-speeds c = join

pub returns-clause-choices : goal.returns-clause-choices
returns-clause-choices c = join
