-- Sweep texts: the common part of a sweep's points, and the number of cars of each point.
use Rattle.std.specs.Prelude.{ℕ, ◌+◌, ◌*◌, List, codes, Result, ◌≡◌, Ok, Err, if◌then◌else◌, bytes_eq}
use Rattle.trlab_bounds.specs.declared.roads.TheConstants.{MAX_LENGTH, MAX_LANES}
use Rattle.trlab_bounds.specs.declared.runs.TheConstants.{MAX_STEPS}
use Rattle.trlab_texts.specs.{declared.fault.Cause.{Cause, TheVariants.Line}, Words.word_after}
use Rattle.trlab_texts.specs.{Words.number_within, Reading.{Reading, give, ◌>>=◌, line, exactly, all_lines}}
use Rattle.trlab_texts.specs.Reading.{Rest, LocatedFault, ◌>>◌, TextParsesTo}
use Rattle.trlab_jobs.specs.{declared.sweep.{Shape.Shape, Span.Span}, Job.{limit_line, key_line}}
use Rattle.trlab_jobs.specs.{RuleParts.rule, Lines.counts}
use Rattle.trlab_rules.specs.Rules.{Programs}
use Rattle.trlab_asm.specs.Operands.{map_ok}

-- The common part of a sweep's points: the shape of their roads, and the steps of each point.

-- the length of a lane on the line `length n`, from 1 to MAX_LENGTH cells
abbrev pub length_line : List ℕ → Result ℕ Cause
length_line text = number_within 1 MAX_LENGTH (word_after (codes "length ") text)

-- the number of lanes on the line `lanes n`, from 1 to MAX_LANES
abbrev pub lanes_line : List ℕ → Result ℕ Cause
lanes_line text = number_within 1 MAX_LANES (word_after (codes "lanes ") text)

-- the number of steps before counting begins, on the line `warm n`, from 0 to MAX_STEPS
abbrev pub warm_line : List ℕ → Result ℕ Cause
warm_line text = number_within 0 MAX_STEPS (word_after (codes "warm ") text)

-- the number of counted steps on the line `measure n`, from 1 to MAX_STEPS
abbrev pub measure_line : List ℕ → Result ℕ Cause
measure_line text = number_within 1 MAX_STEPS (word_after (codes "measure ") text)

-- reads the shape of a sweep's roads: the limit, the length of a lane, and the number of lanes
abbrev pub shape : Reading Shape
shape = do
  limit ← line (exactly limit_line)
  length ← line (exactly length_line)
  lanes ← line (exactly lanes_line)
  give (record { limit = limit; length = length; lanes = lanes })

-- reads the span of a sweep's points: the steps before counting begins, and the counted steps
abbrev pub span : Reading Span
span = do
  warm ← line (exactly warm_line)
  measure ← line (exactly measure_line)
  give (record { warm = warm; measure = measure })

-- the number of cells of a road of this shape, on all its lanes
abbrev pub cell_count : Shape → ℕ
cell_count shape = shape.lanes * shape.length

-- the number of steps of a point: those before counting begins, and the counted ones
abbrev pub all_steps : Span → ℕ
all_steps span = span.warm + span.measure

-- Sweep texts: the common part of a sweep's points, and the number of cars of each point.

-- the common part of a sweep's points: the 32 bytes of the key, the shape of the roads (the limit,
-- the cells per lane and the lanes), the rule, and the span (the steps before counting begins and the counted
-- steps)
pub record Setup : Type 0 where
  pub key : List ℕ
  pub shape : Shape
  pub rule : Programs
  pub span : Span

-- a sweep: the common part of its points, and the number of cars of each point, in the order of the text
pub record Sweep : Type 0 where
  pub setup : Setup
  pub cars : List ℕ

-- the first line of a sweep text, `sweep 1`; the cause `Line` for any other line
abbrev pub sweep_line : List ℕ → Result (Unit {0}) Cause
sweep_line text = if bytes_eq text (codes "sweep 1") then Ok tt else Err Line

-- reads the line `sweep 1` and the line of the key, and gives the key
abbrev pub sweep_heading : Reading (List ℕ)
sweep_heading = line (exactly sweep_line) >> line (exactly key_line)

-- reads the lines of a sweep text before its points: `sweep 1`, the key, the shape, a rule and the span
unfoldable pub setup : Reading Setup
setup = do
  key ← sweep_heading
  roads ← shape
  rule ← rule roads.lanes
  steps ← span
  give (record { key = key; shape = roads; rule = rule; span = steps })

-- the result for a sweep, from the result for its common part: a fault stays, and otherwise the lines that
-- are left give the number of cars of each point, or the first fault
abbrev pub with_counts : Result (Setup × Rest) LocatedFault → Result Sweep LocatedFault
with_counts (Err fault) = Err fault
with_counts (Ok found) =
    map_ok (λ cars. record { setup = found.0; cars = cars })
    (counts (cell_count found.0.shape) (all_steps found.0.span) found.1.number found.1.left)

-- the result for the lines of a sweep text: a sweep, or the first fault
abbrev pub SweepLinesParseTo : List ℕ → Result Sweep LocatedFault → Type 0
SweepLinesParseTo text result =
    (found : Result (Setup × Rest) LocatedFault) × (setup (all_lines text) found × (result ≡ with_counts found))

-- the result for a sweep text: a sweep, or the first fault; for a text that is too long, this is `TooBig`
abbrev pub ParsesAsSweep : List ℕ → Result Sweep LocatedFault → Type 0
ParsesAsSweep text result = TextParsesTo SweepLinesParseTo text result
