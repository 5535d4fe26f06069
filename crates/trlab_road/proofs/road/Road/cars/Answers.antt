use Rattle.std.proofs.Common.{◌∙◌, sym}
use Rattle.trlab_road.proofs.ListRoads.{counted, few_cars, few_lists}
use Rattle.trlab_road.proofs.road.Road.cars.Goals as goal

pub count_cars-requires-clause-at_most_max_lanes : goal.count_cars-requires-clause-at_most_max_lanes
count_cars-requires-clause-at_most_max_lanes c = rw c.deref.ensures.value (few_lists c.self.inside.cells c.self.inside.lanes.items c.self.inside.limit c.self.invariant)

pub count_cars-requires-clause-at_most_max_length : goal.count_cars-requires-clause-at_most_max_length
count_cars-requires-clause-at_most_max_length c = rw c.deref.ensures.value (few_cars c.self.inside.cells c.self.inside.lanes.items c.self.inside.limit c.self.invariant)

pub returns-clause-value : goal.returns-clause-value
returns-clause-value c = rw (← c.self.view_is) ((rw c.deref.ensures.value at c.count_cars.ensures.value) ∙ sym (counted c.self.inside.cells c.self.inside.lanes.items c.self.invariant.sorted))
