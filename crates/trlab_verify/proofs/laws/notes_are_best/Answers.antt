use Rattle.trlab_verify.proofs.{Checking.by_notes, Best.{best, accepted}, VerdictChecks.table_checks}
use Rattle.trlab_verify.specs.Tables.{note_in}
use Rattle.trlab_verify.proofs.laws.notes_are_best.Goals as goal

pub returns-clause-accepted : goal.returns-clause-accepted
returns-clause-accepted c = λ kind program table h. accepted kind program (note_in table) (by_notes kind program table h)

pub returns-clause-best : goal.returns-clause-best
returns-clause-best c = λ kind program table pc h lt. best kind program (note_in table) (by_notes kind program table h) pc lt

pub returns-clause-checks : goal.returns-clause-checks
returns-clause-checks c = table_checks
