use Rattle.trlab_verify.{specs.Tables.note_in, proofs.{Bounded.checked_two, Checking.by_notes}}
use Rattle.trlab_verify.proofs.laws.levels_are_at_most_two.Goals as goal

pub returns : goal.returns
returns c = λ kind program table pc x y h lt. checked_two kind program (note_in table) (by_notes kind program table h) pc lt x y
