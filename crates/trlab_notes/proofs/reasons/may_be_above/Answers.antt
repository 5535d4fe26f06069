use Rattle.std.proofs.Common.{rules}
use Rattle.trlab_notes.proofs.reasons.may_be_above.Goals as goal

pub returns-in-Go : goal.returns-in-Go
returns-in-Go c = search rules
