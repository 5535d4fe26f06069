use Rattle.trlab_road.specs.Cells.{cars}
use Rattle.trlab_segments.specs.Segments.{first_car}
use Rattle.trlab_segments.proofs.parts.line_up.Given as goal

abbrev pub invariant-loop-number : goal.invariant-loop-number
invariant-loop-number g l =
    g.P.Asked.answers l.phase.program.now l.phase.dice.now l.phase.road.now 0 (first_car (cars l.phase.road.now) l.count l.number) l.answers.items
