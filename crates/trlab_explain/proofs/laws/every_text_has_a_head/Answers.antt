use Rattle.trlab_explain.proofs.SomeHead.{some_head}
use Rattle.trlab_explain.proofs.laws.every_text_has_a_head.Goals as goal

pub returns : goal.returns
returns c = some_head
