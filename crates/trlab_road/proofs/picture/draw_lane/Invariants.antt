use Rattle.trlab_road.proofs.ListDrawing.{Drawn}
use Rattle.trlab_road.proofs.picture.draw_lane.Given as goal

abbrev pub invariant-loop-place : goal.invariant-loop-place
invariant-loop-place l = Drawn l.from l.picture l.cars.items l.number l.place
