use Rattle.trlab_road.proofs.MotionLaws.{moves_clean, moved_legal, moves_same_count}
use Rattle.trlab_road.proofs.laws.motion_is_clean.Goals as goal

pub returns : goal.returns
returns c = record {
  clean = λ answer old new legal fits m. moves_clean answer old new legal m fits;
  legal = λ answer old new legal fits m. moved_legal answer old new legal m fits;
  same_cars = λ answer old new legal fits m. moves_same_count answer old new legal m fits;
}
