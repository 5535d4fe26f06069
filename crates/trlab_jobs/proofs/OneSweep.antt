-- A sweep text has exactly one meaning: a sweep that can be run, or a first fault.
use Rattle.std.proofs.Common.{◌≡◌, ℕ, ◌+◌, ◌-◌, ◌*◌, ◌≤◌, List, length, sym, subst, arith, All, Result, Ok}
use Rattle.std.proofs.Common.{Err, IfOk, codes}
use Rattle.trlab_bounds.specs.declared.roads.TheConstants.{MAX_LENGTH, MAX_LANES}
use Rattle.trlab_bounds.specs.declared.runs.TheConstants.{MAX_STEPS}
use Rattle.trlab_asm.specs.Operands.{map_ok}
use Rattle.trlab_road.specs.Cells.{LanesFit, LengthFits, LimitFits}
use Rattle.trlab_step.specs.Run.{IsRuleFor}
use Rattle.trlab_texts.{specs.Reading.{Rest, all_lines, LocatedFault, line, exactly}, proofs.Fine.Anything}
use Rattle.trlab_texts.proofs.{Fine.{FineText, numbered}, OneAnswer.{OneText, OneReading, agree, said, fails}}
use Rattle.trlab_texts.proofs.OneAnswer.{values, made, exact_line, then_one, said_one, text_one}
use Rattle.trlab_jobs.specs.declared.{limits.TheConstants.MAX_WORK, sweep.{Shape.Shape, Span.Span}}
use Rattle.trlab_jobs.specs.{RuleParts.rule, Job.{key_line, limit_line}, Sweep.{length_line, lanes_line}}
use Rattle.trlab_jobs.specs.Sweep.{warm_line, measure_line, shape, span, cell_count, all_steps, Setup, Sweep}
use Rattle.trlab_jobs.specs.Sweep.{sweep_line, sweep_heading, setup, with_counts, SweepLinesParseTo}
use Rattle.trlab_jobs.specs.{Sweep.ParsesAsSweep, Lines.counts, Stored.{CanSpreadOn, IsStoredSweep}}
use Rattle.trlab_jobs.specs.Laws.{HasSomeResult, HasAtMostOneResult, NeverRefusesStandardRules}
use Rattle.trlab_jobs.proofs.{FineLines.fixed_fine, FineCounts.{AllHaveRoom, counts_fine}}
use Rattle.trlab_jobs.proofs.SweepLines.{after_limit, after_cells, after_warm, after_key, after_shape}
use Rattle.trlab_jobs.proofs.{SweepLines.after_rule, OneRule.{FewLanes, rule_one}, OneText.key_one}
use Rattle.trlab_jobs.proofs.OneText.{limit_one}

-- roads may have this shape
record IsShape (roads : Shape) : Type 0 where
  pub limit : LimitFits roads.limit
  pub cells : LengthFits roads.length
  pub lanes : LanesFit roads.lanes

-- points may have this in common
record IsSetup (common : Setup) : Type 0 where
  pub shape : IsShape common.shape
  pub rule : IsRuleFor common.shape.lanes common.rule
  pub counted : 1 ≤ common.span.measure

shape_one : OneReading IsShape shape
shape_one =
    then_one (line (exactly limit_line)) after_limit limit_one (λ limit low.
    then_one (line (exactly length_line)) (after_cells limit) (exact_line length_line (λ text. numbered (codes "length ") text 1 MAX_LENGTH)) (λ cells long.
    then_one (line (exactly lanes_line)) _ (exact_line lanes_line (λ text. numbered (codes "lanes ") text 1 MAX_LANES)) (λ lanes few.
    said_one (record { limit = limit; length = cells; lanes = lanes }) (record {
      limit = record { some_limit = low.low; low_limit = low.high };
      cells = record { some_cell = long.low; few_cells = long.high };
      lanes = record { some_lane = few.low; few_lanes = few.high };
    }))))

-- some steps are counted
abbrev IsCounted : Span → Type 0
IsCounted steps = 1 ≤ steps.measure

span_one : OneReading IsCounted span
span_one =
    then_one (line (exactly warm_line)) after_warm (exact_line warm_line (λ text. numbered (codes "warm ") text 0 MAX_STEPS)) (λ warm any.
    then_one (line (exactly measure_line)) _ (exact_line measure_line (λ text. numbered (codes "measure ") text 1 MAX_STEPS)) (λ measure some.
    said_one (record { warm = warm; measure = measure }) some.low))

heading_one : OneReading Anything sweep_heading
heading_one = then_one (line (exactly sweep_line)) (λ _. line (exactly key_line)) (exact_line sweep_line (fixed_fine (codes "sweep 1"))) (λ _ any. key_one)

few_lanes : (roads : Shape) → IsShape roads → FewLanes roads.lanes
few_lanes roads is = record { some = is.lanes.some_lane; few = is.lanes.few_lanes }

setup_one : OneReading IsSetup setup
unfolding setup
setup_one =
    then_one sweep_heading after_key heading_one (λ key any.
    then_one shape (after_shape key) shape_one (λ roads is.
    then_one (rule roads.lanes) (after_rule key roads) (rule_one roads.lanes (few_lanes roads is)) (λ first suits.
    then_one span _ span_one (λ steps counted.
    said_one (record { key = key; shape = roads; rule = first; span = steps }) (record { shape = is; rule = suits; counted = counted })))))

all_spread : (roads : Shape) (cars : List ℕ) → IsShape roads → All (λ count. count ≤ cell_count roads) cars → All (CanSpreadOn roads) cars
all_spread roads cars is fit = λ k d inside. record { lanes_fit = is.lanes; length_fits = is.cells; limit_fits = is.limit; room = fit k d inside }

stored : (common : Setup) (cars : List ℕ) → IsSetup common → AllHaveRoom (cell_count common.shape) (all_steps common.span) cars → IsStoredSweep (record { setup = common; cars = cars })
stored common cars is all =
    let last = all.room.points (length cars - 1) (omega (arith, all.some)) in
    let first = all.room.work 0 (omega (arith, all.some)) in
    let all_points : 1 + (length cars - 1) ≡ length cars = omega (arith, all.some) in
    let worked = all.room.work (length cars - 1) (omega (arith, all.some)) in
    record {
      rule = is.rule;
      spreads = all_spread common.shape cars is.shape all.room.cars;
      some = all.some;
      few = omega (arith, all.some);
      counted = is.counted;
      short = omega (arith, first);
      work = subst (λ (k : ℕ). k * all_steps common.span ≤ MAX_WORK) all_points worked;
    }

counts_stored : (common : Setup) (cars : Result (List ℕ) LocatedFault) → IsSetup common → FineText (AllHaveRoom (cell_count common.shape) (all_steps common.span)) cars
    → FineText IsStoredSweep (map_ok (λ cars. record { setup = common; cars = cars }) cars)
counts_stored common (Ok cars) is all = stored common cars is all
counts_stored common (Err fault) is fine = fine

with_counts_fine : (found : Result (Setup × Rest) LocatedFault) → FineText (λ (x : Setup × Rest). IsSetup x.0) found → FineText IsStoredSweep (with_counts found)
with_counts_fine (Ok found) is =
    counts_stored found.0 (counts (cell_count found.0.shape) (all_steps found.0.span) found.1.number found.1.left) is
    (counts_fine (cell_count found.0.shape) (all_steps found.0.span) found.1.number found.1.left)
with_counts_fine (Err fault) fine = fine

-- after the part that all points share was read, the numbers of cars make a sweep that can be run
pub said_stored : (common : Setup) (cars : List ℕ) (at after : Rest) → setup at (Ok (common, after))
    → Ok cars ≡ counts (cell_count common.shape) (all_steps common.span) after.number after.left → IsStoredSweep (record { setup = common; cars = cars })
said_stored common cars at after says counted =
    let all = counts_fine (cell_count common.shape) (all_steps common.span) after.number after.left in
    stored common cars (values (common, after) (setup_one at).one says)
    (subst (λ (r : Result (List ℕ) LocatedFault). FineText (AllHaveRoom (cell_count common.shape) (all_steps common.span)) r) (sym counted) all)

sweep_text : (text : List ℕ) → OneText IsStoredSweep (ParsesAsSweep text)
sweep_text text = text_one SweepLinesParseTo text (made with_counts (setup_one (all_lines text)).one with_counts_fine)

-- a sweep text has a meaning, and without a fault this can be run
pub says_stored : (text : List ℕ) → (says : Result Sweep LocatedFault) × (ParsesAsSweep text says × IfOk says IsStoredSweep)
says_stored text = said (sweep_text text)

pub something : HasSomeResult ParsesAsSweep
something text = let one = sweep_text text in (one.answer, one.says)

pub one_thing : HasAtMostOneResult ParsesAsSweep
one_thing text says other p q = agree says other (sweep_text text) p q

pub sweeps_never : NeverRefusesStandardRules ParsesAsSweep
sweeps_never text fault p = fails fault (sweep_text text) p
