use Rattle.trlab_texts.proofs.Cuts.{end_test}
use Rattle.trlab_texts.proofs.rest.Rest.is_end.Goals as goal

pub returns : goal.returns
returns c = rw (← c.self.view_is) (end_test c.self.inside.unread.now c.is_empty.result c.is_empty.ensures)
