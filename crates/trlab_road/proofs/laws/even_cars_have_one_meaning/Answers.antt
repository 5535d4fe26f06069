use Rattle.trlab_road.proofs.EvenExists.{something, one_thing}
use Rattle.trlab_road.proofs.laws.even_cars_have_one_meaning.Goals as goal

pub returns : goal.returns
returns c = record { some_meaning = something; one_meaning = one_thing }
