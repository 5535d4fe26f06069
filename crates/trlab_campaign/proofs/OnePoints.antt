-- A sweep text has only one output.
use Rattle.std.proofs.Common.{◌≡◌, ℕ, List, Bool, get_or, ap, sym, ◌∙◌, subst, arith, Result, Ok, Err}
use Rattle.std.proofs.lemmas.List.{same_lists}
use Rattle.trlab_diagram.specs.{declared.point.Point.Point, Tables.points_text}
use Rattle.trlab_road.{specs.Cells.Cells, proofs.EvenRoads.one_even}
use Rattle.trlab_step.{specs.Run.IsTallyAt, proofs.RunLaws.road_is_unique}
use Rattle.trlab_texts.specs.Reading.{LocatedFault}
use Rattle.trlab_jobs.{specs.Sweep.{all_steps, Setup, Sweep}, proofs.OneSweep.one_thing}
use Rattle.trlab_campaign.specs.Output.{IsOutputForResult}
use Rattle.trlab_campaign.specs.SweepOutput.{IsPoint, ArePoints, IsOutputForSweep, point_of, point_seed}
use Rattle.trlab_campaign.specs.{SweepOutput.{sweep_sheet, IsSweepOutput}, Laws.HasAtMostOneOutput}

-- a sweep has one point with a number and a count of cars
point_one : (common : Setup) (number cars : ℕ) (point other : Point) → IsPoint common number cars point → IsPoint common number cars other → point ≡ other
point_one common number cars point other p q =
    let start = one_even common.shape.lanes common.shape.length common.shape.limit cars p.start q.start p.even q.even in
    let counted = subst (λ (road : Cells). IsTallyAt (point_seed common number road) (sweep_sheet common) (all_steps common.span) p.tally) start p.counted in
    let same = road_is_unique (point_seed common number q.start) (sweep_sheet common) (all_steps common.span) counted.0 q.counted.0 p.tally q.tally counted.1 q.counted.1 in
    p.told ∙ (ap (point_of common cars) same.1 ∙ sym q.told)

points_one : (sweep : Sweep) (points others : List Point) → ArePoints sweep points → ArePoints sweep others → points ≡ others
points_one sweep points others p q =
    same_lists points others (p.one_each ∙ sym q.one_each) (λ i d inside.
    point_one sweep.setup i (get_or sweep.cars i 0) (get_or points i d) (get_or others i d) (p.each i 0 d (omega (arith, p.one_each))) (q.each i 0 d (omega (arith, p.one_each))))

output_one : (says : Result Sweep LocatedFault) (rejected also : Bool) (out other : List ℕ) → IsOutputForResult IsOutputForSweep says rejected out → IsOutputForResult IsOutputForSweep says also other → (rejected ≡ also) × (out ≡ other)
output_one (Ok sweep) rejected also out other p q =
    (p.0 ∙ sym q.0, p.1.1.1 ∙ (ap points_text (points_one sweep p.1.0 q.1.0 p.1.1.0 q.1.1.0) ∙ sym q.1.1.1))
output_one (Err fault) rejected also out other p q = (p.0 ∙ sym q.0, p.1 ∙ sym q.1)

pub sweep_one_output : HasAtMostOneOutput IsSweepOutput
sweep_one_output text rejected also out other p q =
    let same = one_thing text p.0 q.0 p.1.0 q.1.0 in
    output_one q.0 rejected also out other (subst (λ (says : Result Sweep LocatedFault). IsOutputForResult IsOutputForSweep says rejected out) same p.1.1) q.1.1
