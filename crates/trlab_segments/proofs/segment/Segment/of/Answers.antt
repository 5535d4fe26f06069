use Rattle.std.proofs.Common.{arith}
use Rattle.trlab_segments.proofs.Borders.{first_rises}
use Rattle.trlab_segments.proofs.segment.Segment.of.Goals as goal

pub returns-clause-to : goal.returns-clause-to
returns-clause-to c = c.first_car-2.ensures.value

pub returns-clause-in_range : goal.returns-clause-in_range
returns-clause-in_range c =
    let rises = first_rises c.args.cars c.args.count c.args.number (omega (arith, c.requires)) in
    (omega (arith, rises, c.first_car.ensures.value, c.first_car-2.ensures.value), c.first_car-2.ensures.in_range)
