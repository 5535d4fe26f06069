use Rattle.std.proofs.Common.{sym}
use Rattle.trlab_road.proofs.ListRoads.{length_first}
use Rattle.trlab_road.proofs.road.Road.length.Goals as goal

pub returns-clause-value : goal.returns-clause-value
returns-clause-value c = rw (← c.self.view_is) (sym (length_first c.self.inside.cells c.self.inside.lanes.items c.self.inside.limit c.self.invariant))
