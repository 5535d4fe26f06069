use Rattle.std.proofs.Common.{rules}
use Rattle.trlab_notes.proofs.reasons.Reason.from_number.Goals as goal

pub returns-in-10 : goal.returns-in-10
returns-in-10 c = search rules
