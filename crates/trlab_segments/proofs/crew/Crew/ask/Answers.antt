use Rattle.std.proofs.Common.{arith, subst}
use Rattle.trlab_road.specs.Cells.{cars}
use Rattle.trlab_segments.proofs.Borders.{no_car_behind}
use Rattle.trlab_segments.proofs.crew.Crew.ask.Goals as goal

pub returns : goal.returns
returns g c =
    let phase = c.args.phase.now in
    let crew = c.args.self.now in
    let whole = no_car_behind (cars phase.road.now) c.segment_count-count.result crew.workers crew.in_range.0 (omega (arith, c.segment_count-count.ensures, c.cars.ensures.value)) in
    subst (λ last. g.P.Asked.answers phase.program.now phase.dice.now phase.road.now 0 last c.line_up.new.answers.items)
    whole c.in_ok-line_up-in-Ok.ensures
