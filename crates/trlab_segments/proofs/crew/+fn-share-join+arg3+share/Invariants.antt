use Rattle.trlab_segments.specs.Drawers.{passes_of}
use Rattle.trlab_segments.proofs.crew.+fn-share-join+arg3+share.Given as goal

abbrev pub decreases-join+arg3 : goal.decreases-join+arg3
decreases-join+arg3 g l = passes_of l.drawer

abbrev pub decreases-share : goal.decreases-share
decreases-share g l = passes_of l.drawer
