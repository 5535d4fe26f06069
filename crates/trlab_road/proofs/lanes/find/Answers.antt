use Rattle.std.proofs.Common.{◌∙◌, ap, length}
use Rattle.trlab_road.proofs.ListRoads.{found_later, list_read, some_list}
use Rattle.trlab_road.proofs.lanes.find.Goals as goal

pub returns-else-index-first : goal.returns-else-index-first
returns-else-index-first c =
    let some = some_list c.args.lanes.now c.args.k c.requires.below in
    found_later c.args.lanes.now c.args.k _ c.requires.at_most_max_lanes c.requires.below
    (c.len-first.ensures ∙ c.index-lanes-0.result.ok.0 ∙ ap length (list_read c.args.lanes.now 0 c.index-lanes-0.result some c.index-lanes-0.is)) c.if-index-first.false
