-- The points of a sweep, one after another.
use Rattle.std.proofs.Common.{◌≡◌, ℕ, zero, suc, ◌+◌, ◌*◌, ◌<◌, ◌≤◌, List, [], ◌∷◌, ◌++◌, length}
use Rattle.std.proofs.{Common.{length-append, get_or, inl, inr, ◌∙◌, sym, arith}, lemmas.Bool.cases_lt}
use Rattle.std.proofs.lemmas.List.{get_or_append_left, get_or_push, get_or_default}
use Rattle.trlab_diagram.specs.{declared.point.Point.Point, Tables.IsMeasured}
use Rattle.trlab_step.{specs.Run.{IsRuleFor, IsSheetFor}, proofs.Sheets.{with_is_sheet, with_all}}
use Rattle.trlab_jobs.specs.Sweep.{Setup, Sweep}
use Rattle.trlab_sequential_book.specs.declared.seed.Seed.{Seed}
use Rattle.trlab_campaign.specs.SweepOutput.{AreFirstPoints, ArePoints, AreSeeds, IsPoint, IsStart}
use Rattle.trlab_campaign.specs.SweepOutput.{sweep_sheet}

-- the sheet of a sweep is one for the lanes of its roads
pub suits : (lanes : ℕ) (common : Setup) → IsRuleFor lanes common.rule → IsSheetFor lanes (sweep_sheet common)
suits lanes common rule = record {
  is_sheet = with_is_sheet common.rule [] tt;
  rules = with_all (IsRuleFor lanes) common.rule [] rule (λ k d inside. absurd (omega arith));
}

-- a road has at least one cell
pub some_cells : (lanes cells : ℕ) → 1 ≤ lanes → 1 ≤ cells → 1 ≤ lanes * cells
some_cells (suc lanes) (suc cells) p q = omega arith
some_cells zero cells p q = absurd (omega arith)
some_cells (suc lanes) zero p q = absurd (omega arith)

-- no seed is made yet
pub no_seeds : (sweep : Sweep) (first : ℕ) → AreSeeds sweep first []
no_seeds sweep first = λ number i seed here inside. absurd (omega arith)

-- one more seed is made
pub one_more_seed : (sweep : Sweep) (first next : ℕ) (seeds : List Seed) (made : Seed) → AreSeeds sweep first seeds → next ≡ first + length seeds → IsStart sweep next made.road
    → AreSeeds sweep first (seeds ++ (made ∷ []))
one_more_seed sweep first next seeds made are at start = each_of
  where
    each_of : AreSeeds sweep first (seeds ++ (made ∷ []))
    each_of number i d here within = elim (cases_lt i (length seeds)) [
      | inl below ↦ rw (get_or_append_left seeds (made ∷ []) d i below) (are number i d here below)
      | inr above ↦
          let more = length-append seeds (made ∷ []) in
          let last : length seeds ≡ i = omega (arith, more) in
          let same : number ≡ next = omega (arith, more) in
          rw (get_or_push seeds made d i last, same) start
    ]

-- no point is known yet
pub no_points : (sweep : Sweep) → AreFirstPoints sweep []
no_points sweep = record { few = omega arith; each = λ i cars point inside. absurd (omega arith); measured = λ k d inside. absurd (omega arith) }

-- one more point is known
pub one_more : (sweep : Sweep) (points : List Point) (number cars : ℕ) (point : Point) → AreFirstPoints sweep points → length points ≡ number → number < length sweep.cars
    → cars ≡ get_or sweep.cars number 0 → IsPoint sweep.setup number cars point → IsMeasured point → AreFirstPoints sweep (points ++ (point ∷ []))
one_more sweep points number cars point first here inside counted is measured =
    let more = length-append points (point ∷ []) in
    record { few = omega (arith, more); each = each_of; measured = measured_of }
  where
    last_of : (i count : ℕ) (d : Point) → i ≡ number → IsPoint sweep.setup i (get_or sweep.cars i count) (get_or (points ++ (point ∷ [])) i d)
    last_of i count d at =
        let same : get_or sweep.cars number count ≡ cars = get_or_default sweep.cars number count 0 inside ∙ sym counted in
        rw (at, get_or_push points point d number here, same) is

    each_of : (i count : ℕ) (d : Point) → i < length (points ++ (point ∷ [])) → IsPoint sweep.setup i (get_or sweep.cars i count) (get_or (points ++ (point ∷ [])) i d)
    each_of i count d within = elim (cases_lt i (length points)) [
      | inl below ↦ rw (get_or_append_left points (point ∷ []) d i below) (first.each i count d below)
      | inr above ↦ last_of i count d (let more = length-append points (point ∷ []) in omega (arith, more))
    ]

    measured_of : (i : ℕ) (d : Point) → i < length (points ++ (point ∷ [])) → IsMeasured (get_or (points ++ (point ∷ [])) i d)
    measured_of i d within = elim (cases_lt i (length points)) [
      | inl below ↦ rw (get_or_append_left points (point ∷ []) d i below) (first.measured i d below)
      | inr above ↦
          let last : length points ≡ i = (let more = length-append points (point ∷ []) in omega (arith, more)) in
          rw (get_or_push points point d i last) measured
    ]

-- all points are known
pub all_points : (sweep : Sweep) (points : List Point) → AreFirstPoints sweep points → length points ≡ length sweep.cars → ArePoints sweep points
all_points sweep points first all = record { one_each = all; each = λ i cars point inside. first.each i cars point (omega (arith, all)) }
