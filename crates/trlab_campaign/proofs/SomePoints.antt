-- A sweep text has an output.
use Rattle.std.proofs.Common.{◌≡◌, ℕ, zero, suc, ◌+◌, ◌<◌, List, [], ◌∷◌, Bool, true, false, length, get_or}
use Rattle.std.proofs.Common.{refl, subst, arith, All, Result, Ok, Err, IfOk}
use Rattle.trlab_diagram.specs.{declared.point.Point.Point, Tables.points_text}
use Rattle.trlab_road.specs.{Cells.{Cells, IsLegal}, Laws.EvenCarsMean, Spreading.{CanSpread, IsEvenlySpaced}}
use Rattle.trlab_road.{specs.declared.fault.RoadFault.RoadFault, proofs.EvenRoads.no_fault}
use Rattle.trlab_road.proofs.EvenExists.{something}
use Rattle.trlab_step.{specs.Run.IsRuleFor, proofs.RunLaws.run_comes_to_road}
use Rattle.trlab_texts.specs.Reading.{LocatedFault}
use Rattle.trlab_jobs.specs.{Sweep.{all_steps, Setup, Sweep}, Stored.{CanSpreadOn, IsStoredSweep}}
use Rattle.trlab_jobs.proofs.OneSweep.{says_stored}
use Rattle.trlab_campaign.specs.{Output.{IsOutputForResult, fault_line}, SweepOutput.{IsPoint, ArePoints}}
use Rattle.trlab_campaign.specs.SweepOutput.{IsOutputForSweep, point_of, point_seed, sweep_sheet}
use Rattle.trlab_campaign.{specs.{SweepOutput.IsSweepOutput, Laws.HasSomeOutput}, proofs.Points.suits}

-- a road on which cars that fit are evenly spread
pub even_some : (lanes cells limit n : ℕ) → CanSpread lanes cells limit n → (road : Cells) × (IsEvenlySpaced lanes cells limit n road × IsLegal road)
even_some lanes cells limit n fits = let said = something lanes cells limit n in of_said said.0 said.1
  where
    of_said : (said : Result Cells RoadFault) → EvenCarsMean lanes cells limit n said → (road : Cells) × (IsEvenlySpaced lanes cells limit n road × IsLegal road)
    of_said (Ok road) says = (road, (says.1, says.2))
    of_said (Err fault) says = absurd (says.1 (no_fault lanes cells limit n fault fits says.0))

-- a point of a sweep for any number, and any number of cars that fits
point_some : (common : Setup) (number cars : ℕ) → IsRuleFor common.shape.lanes common.rule → CanSpreadOn common.shape cars → (point : Point) × IsPoint common number cars point
point_some common number cars rule fits =
    let start = even_some common.shape.lanes common.shape.length common.shape.limit cars fits in
    let sheet = suits (length start.0.lanes) common (rw start.1.0.same_lanes rule) in
    let run = run_comes_to_road (point_seed common number start.0) (sweep_sheet common) (all_steps common.span) start.1.1 sheet in
    (point_of common cars run.1, record { start = start.0; tally = run.1; even = start.1.0; counted = (run.0, run.2); told = refl })

-- points from a number on
record PointsFrom (common : Setup) (number : ℕ) (cars : List ℕ) (points : List Point) : Type 0 where
  pub one_each : length points ≡ length cars
  pub each : (i count : ℕ) (point : Point) → i < length cars → IsPoint common (number + i) (get_or cars i count) (get_or points i point)

in_front : (common : Setup) (number count : ℕ) (point : Point) (cars : List ℕ) (points : List Point) → IsPoint common number count point → PointsFrom common (number + 1) cars points
    → PointsFrom common number (count ∷ cars) (point ∷ points)
in_front common number count point cars points one rest = record { one_each = omega (arith, rest.one_each); each = each_of }
  where
    each_of : (i c : ℕ) (p : Point) → i < suc (length cars) → IsPoint common (number + i) (get_or (count ∷ cars) i c) (get_or (point ∷ points) i p)
    each_of zero c p inside = let same : number + 0 ≡ number = omega arith in rw same one
    each_of (suc i) c p inside = let same : number + suc i ≡ number + 1 + i = omega arith in rw same (rest.each i c p (omega arith))

points_some : (common : Setup) (number : ℕ) (cars : List ℕ) → IsRuleFor common.shape.lanes common.rule → All (CanSpreadOn common.shape) cars
    → (points : List Point) × PointsFrom common number cars points
points_some common number [] rule fit = ([], record { one_each = refl; each = λ i c p inside. absurd (omega arith) })
points_some common number (count ∷ cars) rule fit =
    let one = point_some common number count rule (fit 0 count (omega arith)) in
    let rest = points_some common (number + 1) cars rule (λ k d inside. fit (suc k) d (omega arith)) in
    (one.0 ∷ rest.0, in_front common number count one.0 cars rest.0 one.1 rest.1)

from_start : (sweep : Sweep) (points : List Point) → PointsFrom sweep.setup 0 sweep.cars points → ArePoints sweep points
from_start sweep points from = record {
  one_each = from.one_each;
  each = λ i cars point inside.
      let same : 0 + i ≡ i = omega arith in
      subst (λ (n : ℕ). IsPoint sweep.setup n (get_or sweep.cars i cars) (get_or points i point)) same (from.each i cars point inside);
}

output_some : (says : Result Sweep LocatedFault) → IfOk says IsStoredSweep → (rejected : Bool) × (out : List ℕ) × IsOutputForResult IsOutputForSweep says rejected out
output_some (Ok sweep) stored =
    let points = points_some sweep.setup 0 sweep.cars stored.rule stored.spreads in
    (false, points_text points.0, (refl, (points.0, (from_start sweep points.0 points.1, refl))))
output_some (Err fault) stored = (true, fault_line fault, (refl, refl))

pub sweep_some_output : HasSomeOutput IsSweepOutput
sweep_some_output text =
    let found = says_stored text in
    let output = output_some found.0 found.1.1 in
    (output.0, output.1, (found.0, (found.1.0, output.2)))
