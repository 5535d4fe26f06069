-- The lines of a sweep text before its points, one after another.
use Rattle.std.proofs.Common.{ℕ, List, refl, Result, Ok, Err}
use Rattle.trlab_rules.specs.Rules.{Programs}
use Rattle.trlab_texts.specs.{declared.fault.TextFault.TextFault, Reading.{Rest, Reading, ◌>>=◌, give, line}}
use Rattle.trlab_texts.{specs.Reading.{exactly, Reports}, proofs.Readings.{goes_on, stops}}
use Rattle.trlab_jobs.specs.{declared.sweep.{Shape.Shape, Span.Span}, Job.{key_line, limit_line}}
use Rattle.trlab_jobs.specs.{RuleParts.rule, Sweep.{length_line, lanes_line, warm_line, measure_line, shape}}
use Rattle.trlab_jobs.specs.Sweep.{span, Setup, sweep_line, sweep_heading, setup}

-- the part that is read after each line of the roads
abbrev pub after_cells : ℕ → ℕ → Reading Shape
after_cells limit cells = line (exactly lanes_line) >>= λ lanes. give (record { limit = limit; length = cells; lanes = lanes })

abbrev pub after_limit : ℕ → Reading Shape
after_limit limit = line (exactly length_line) >>= after_cells limit

pub limit_fails : (at : Rest) (fault : TextFault) → Reports {A = ℕ × Rest} (line (exactly limit_line) at) (Err fault) → Reports {A = Shape × Rest} (shape at) (Err fault)
limit_fails at fault told = stops (line (exactly limit_line)) after_limit at fault told

pub cells_fail : (limit : ℕ) (at after : Rest) (fault : TextFault) → line (exactly limit_line) at (Ok (limit, after))
    → Reports {A = ℕ × Rest} (line (exactly length_line) after) (Err fault) → Reports {A = Shape × Rest} (shape at) (Err fault)
cells_fail limit at after fault one told =
    goes_on (line (exactly limit_line)) after_limit at after limit (Err fault) one (stops (line (exactly length_line)) (after_cells limit) after fault told)

pub lanes_fail : (limit cells : ℕ) (at after behind : Rest) (fault : TextFault) → line (exactly limit_line) at (Ok (limit, after))
    → line (exactly length_line) after (Ok (cells, behind)) → Reports {A = ℕ × Rest} (line (exactly lanes_line) behind) (Err fault)
    → Reports {A = Shape × Rest} (shape at) (Err fault)
lanes_fail limit cells at after behind fault one two told =
    goes_on (line (exactly limit_line)) after_limit at after limit (Err fault) one
    (goes_on (line (exactly length_line)) (after_cells limit) after behind cells (Err fault) two
    (stops (line (exactly lanes_line)) (λ lanes. give (record { limit = limit; length = cells; lanes = lanes })) behind fault told))

pub shape_said : (limit cells lanes : ℕ) (at after behind end : Rest) → line (exactly limit_line) at (Ok (limit, after)) → line (exactly length_line) after (Ok (cells, behind))
    → line (exactly lanes_line) behind (Ok (lanes, end)) → shape at (Ok (record { limit = limit; length = cells; lanes = lanes }, end))
shape_said limit cells lanes at after behind end one two three = (Ok (limit, after), (one, (Ok (cells, behind), (two, (Ok (lanes, end), (three, refl))))))

-- the part that is read after the first line of the steps
abbrev pub after_warm : ℕ → Reading Span
after_warm warm = line (exactly measure_line) >>= λ measure. give (record { warm = warm; measure = measure })

pub warm_fails : (at : Rest) (fault : TextFault) → Reports {A = ℕ × Rest} (line (exactly warm_line) at) (Err fault) → Reports {A = Span × Rest} (span at) (Err fault)
warm_fails at fault told = stops (line (exactly warm_line)) after_warm at fault told

pub measure_fails : (warm : ℕ) (at after : Rest) (fault : TextFault) → line (exactly warm_line) at (Ok (warm, after))
    → Reports {A = ℕ × Rest} (line (exactly measure_line) after) (Err fault) → Reports {A = Span × Rest} (span at) (Err fault)
measure_fails warm at after fault one told =
    goes_on (line (exactly warm_line)) after_warm at after warm (Err fault) one
    (stops (line (exactly measure_line)) (λ measure. give (record { warm = warm; measure = measure })) after fault told)

pub span_said : (warm measure : ℕ) (at after end : Rest) → line (exactly warm_line) at (Ok (warm, after)) → line (exactly measure_line) after (Ok (measure, end))
    → span at (Ok (record { warm = warm; measure = measure }, end))
span_said warm measure at after end one two = (Ok (warm, after), (one, (Ok (measure, end), (two, refl))))

pub sweep_fails : (at : Rest) (fault : TextFault) → Reports {A = Unit {0} × Rest} (line (exactly sweep_line) at) (Err fault) → Reports {A = List ℕ × Rest} (sweep_heading at) (Err fault)
sweep_fails at fault told = stops (line (exactly sweep_line)) (λ _. line (exactly key_line)) at fault told

pub key_told : (at after : Rest) (out : Result (List ℕ × Rest) TextFault) → line (exactly sweep_line) at (Ok (tt, after)) → Reports (line (exactly key_line) after) out → Reports (sweep_heading at) out
key_told at after out one told = goes_on (line (exactly sweep_line)) (λ _. line (exactly key_line)) at after tt out one told

-- the part that is read after the key, the roads and the rule
abbrev pub after_rule : List ℕ → Shape → Programs → Reading Setup
after_rule key roads first = span >>= λ steps. give (record { key = key; shape = roads; rule = first; span = steps })

abbrev pub after_shape : List ℕ → Shape → Reading Setup
after_shape key roads = rule roads.lanes >>= after_rule key roads

abbrev pub after_key : List ℕ → Reading Setup
after_key key = shape >>= after_shape key

pub key_fails : (at : Rest) (fault : TextFault) → Reports {A = List ℕ × Rest} (sweep_heading at) (Err fault) → Reports {A = Setup × Rest} (setup at) (Err fault)
unfolding setup
key_fails at fault told = stops sweep_heading after_key at fault told

pub shape_fails : (key : List ℕ) (at after : Rest) (fault : TextFault) → sweep_heading at (Ok (key, after)) → Reports {A = Shape × Rest} (shape after) (Err fault)
    → Reports {A = Setup × Rest} (setup at) (Err fault)
unfolding setup
shape_fails key at after fault one told = goes_on sweep_heading after_key at after key (Err fault) one (stops shape (after_shape key) after fault told)

pub rule_fails : (key : List ℕ) (roads : Shape) (at after behind : Rest) (fault : TextFault) → sweep_heading at (Ok (key, after)) → shape after (Ok (roads, behind))
    → Reports {A = Programs × Rest} (rule roads.lanes behind) (Err fault) → Reports {A = Setup × Rest} (setup at) (Err fault)
unfolding setup
rule_fails key roads at after behind fault one two told =
    goes_on sweep_heading after_key at after key (Err fault) one
    (goes_on shape (after_shape key) after behind roads (Err fault) two (stops (rule roads.lanes) (after_rule key roads) behind fault told))

pub span_fails : (key : List ℕ) (roads : Shape) (first : Programs) (at after behind last : Rest) (fault : TextFault) → sweep_heading at (Ok (key, after)) → shape after (Ok (roads, behind))
    → rule roads.lanes behind (Ok (first, last)) → Reports {A = Span × Rest} (span last) (Err fault) → Reports {A = Setup × Rest} (setup at) (Err fault)
unfolding setup
span_fails key roads first at after behind last fault one two three told =
    goes_on sweep_heading after_key at after key (Err fault) one
    (goes_on shape (after_shape key) after behind roads (Err fault) two
    (goes_on (rule roads.lanes) (after_rule key roads) behind last first (Err fault) three
    (stops span (λ steps. give (record { key = key; shape = roads; rule = first; span = steps })) last fault told)))

pub setup_said : (key : List ℕ) (roads : Shape) (first : Programs) (steps : Span) (at after behind last end : Rest) → sweep_heading at (Ok (key, after)) → shape after (Ok (roads, behind))
    → rule roads.lanes behind (Ok (first, last)) → span last (Ok (steps, end)) → setup at (Ok (record { key = key; shape = roads; rule = first; span = steps }, end))
unfolding setup
setup_said key roads first steps at after behind last end one two three four =
    (Ok (key, after), (one, (Ok (roads, behind), (two, (Ok (first, last), (three, (Ok (steps, end), (four, refl))))))))
