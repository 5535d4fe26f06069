use Rattle.trlab_book.proofs.Replaying.{replays_start}
use Rattle.trlab_book.proofs.kept.Kept.new.Goals as goal

pub invariant_of-result : goal.invariant_of-result
invariant_of-result c = record { replays = replays_start _ _ c.new.ensures.items c.new-book.ensures }

pub returns : goal.returns
returns c = (c.new.ensures.items, c.new-book.ensures)
