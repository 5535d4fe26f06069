use Rattle.std.proofs.Common.{ap}
use Rattle.trlab_sequential_book.specs.declared.event.Call.TheVariants.{Replace}
use Rattle.trlab_book.proofs.kept.replace_call.Goals as goal

pub returns : goal.returns
returns c = ap (Replace c.args.job) c.in_ok-copy.ensures
