use Rattle.trlab_road.proofs.EvenRoads.{one_even, even_legal, even_count, one_fault, no_fault}
use Rattle.trlab_road.proofs.laws.even_cars_make_one_road.Goals as goal

pub returns : goal.returns
returns c = record {
  one_road = one_even;
  legal = even_legal;
  all_cars = even_count;
  one_fault = one_fault;
  no_fault = no_fault;
}
