use Rattle.trlab_segments.proofs.Borders.{begin_and_end, have_cars, are_all_cars}
use Rattle.trlab_segments.proofs.laws.segments_are_all_cars.Goals as goal

pub returns-clause-ends : goal.returns-clause-ends
returns-clause-ends c = begin_and_end

pub returns-clause-some : goal.returns-clause-some
returns-clause-some c = have_cars

pub returns-clause-all : goal.returns-clause-all
returns-clause-all c = are_all_cars
