-- The lines of a job text, one after another.
use Rattle.std.proofs.Common.{◌≡◌, ℕ, List, length, refl, subst, Result, Ok, Err}
use Rattle.trlab_road.specs.Cells.{Cells}
use Rattle.trlab_rules.specs.Rules.{Programs}
use Rattle.trlab_step.specs.Run.{Sheet}
use Rattle.trlab_texts.specs.declared.fault.TextFault.{TextFault, TheVariants.{At, Memory}}
use Rattle.trlab_texts.specs.Reading.{Rest, all_lines, Reading, ◌>>=◌, ◌>>◌, give, line, exactly, Reports}
use Rattle.trlab_texts.proofs.Readings.{goes_on}
use Rattle.trlab_jobs.specs.Job.{lanes, Job, job, road_line, key_line, limit_line, steps_line}
use Rattle.trlab_jobs.specs.{Job.{JobLinesParseTo, ReadingHasResult}, RuleParts.{rule, later_rules}}

-- the part of a job that is read after each line
abbrev pub after_all : List ℕ → Cells → Programs → ℕ → Sheet → Reading Job
after_all key road first steps later = give (record { key = key; road = road; first = first; later = later; steps = steps })

abbrev pub after_steps : List ℕ → Cells → Programs → ℕ → Reading Job
after_steps key road first steps = later_rules (length road.lanes) steps >>= after_all key road first steps

abbrev pub after_rule : List ℕ → Cells → Programs → Reading Job
after_rule key road first = line (exactly steps_line) >>= after_steps key road first

abbrev pub after_lanes : List ℕ → Cells → Reading Job
after_lanes key road = rule (length road.lanes) >>= after_rule key road

abbrev pub after_limit : List ℕ → ℕ → Reading Job
after_limit key limit = lanes limit >>= after_lanes key

abbrev pub after_key : List ℕ → Reading Job
after_key key = line (exactly limit_line) >>= after_limit key

abbrev pub after_road : Reading Job
after_road = line (exactly key_line) >>= after_key

abbrev pub whole : Reading Job
whole = line (exactly road_line) >> after_road

-- after each line that was read
pub behind_road : (at after : Rest) (out : Result (Job × Rest) TextFault) → line (exactly road_line) at (Ok (tt, after)) → Reports (after_road after) out → Reports (whole at) out
behind_road at after out says rest = goes_on (line (exactly road_line)) (λ _. after_road) at after tt out says rest

pub behind_key : (key : List ℕ) (at after : Rest) (out : Result (Job × Rest) TextFault) → line (exactly key_line) at (Ok (key, after)) → Reports (after_key key after) out → Reports (after_road at) out
behind_key key at after out says rest = goes_on (line (exactly key_line)) after_key at after key out says rest

pub behind_limit : (key : List ℕ) (limit : ℕ) (at after : Rest) (out : Result (Job × Rest) TextFault) → line (exactly limit_line) at (Ok (limit, after)) → Reports (after_limit key limit after) out → Reports (after_key key at) out
behind_limit key limit at after out says rest = goes_on (line (exactly limit_line)) (after_limit key) at after limit out says rest

pub behind_lanes : (key : List ℕ) (limit : ℕ) (road : Cells) (at after : Rest) (out : Result (Job × Rest) TextFault) → lanes limit at (Ok (road, after)) → Reports (after_lanes key road after) out → Reports (after_limit key limit at) out
behind_lanes key limit road at after out says rest = goes_on (lanes limit) (after_lanes key) at after road out says rest

pub behind_rule : (key : List ℕ) (road : Cells) (first : Programs) (at after : Rest) (out : Result (Job × Rest) TextFault) → rule (length road.lanes) at (Ok (first, after)) → Reports (after_rule key road first after) out → Reports (after_lanes key road at) out
behind_rule key road first at after out says rest = goes_on (rule (length road.lanes)) (after_rule key road) at after first out says rest

pub behind_steps : (key : List ℕ) (road : Cells) (first : Programs) (steps : ℕ) (at after : Rest) (out : Result (Job × Rest) TextFault) → line (exactly steps_line) at (Ok (steps, after)) → Reports (after_steps key road first steps after) out → Reports (after_rule key road first at) out
behind_steps key road first steps at after out says rest = goes_on (line (exactly steps_line)) (after_steps key road first) at after steps out says rest

pub behind_all : (key : List ℕ) (road : Cells) (first : Programs) (steps : ℕ) (later : Sheet) (at after : Rest) → later_rules (length road.lanes) steps at (Ok (later, after))
    → after_steps key road first steps at (Ok (record { key = key; road = road; first = first; later = later; steps = steps }, after))
behind_all key road first steps later at after says = (Ok (later, after), (says, refl))

-- the result for a text is the result for its lines, from the place before the first line on
pub lines_say : (text : List ℕ) (begin after : Rest) (x : Job) → begin ≡ all_lines text → whole begin (Ok (x, after)) → JobLinesParseTo text (Ok x)
unfolding job
lines_say text begin after x e says = (after, subst (λ (p : Rest). whole p (Ok (x, after))) e says)

pub lines_fail : (text : List ℕ) (begin : Rest) (fault : TextFault) → begin ≡ all_lines text
    → Reports {A = Job × Rest} (whole begin) (Err fault) → Reports {A = Job} (JobLinesParseTo text) (Err fault)
unfolding job
lines_fail text begin (At line cause) e says = subst (λ (p : Rest). whole p (Err (record { line = line; cause = cause }))) e says
lines_fail text begin Memory e says = tt

-- a reading up to the end stops at a fault
pub ends_in_fault : (reading : Reading Job) (place : Rest) (fault : TextFault) → Reports {A = Job × Rest} (reading place) (Err fault) → Reports {A = Job} (ReadingHasResult reading place) (Err fault)
ends_in_fault reading place (At line cause) says = says
ends_in_fault reading place Memory says = tt

-- the result for a text, if the lines from some place on were read to the end
pub lines_end : (text : List ℕ) (begin place : Rest) (reading : Reading Job) (says : Result Job TextFault) → begin ≡ all_lines text → Reports (ReadingHasResult reading place) says
    → ((out : Result (Job × Rest) TextFault) → Reports (reading place) out → Reports (whole begin) out) → Reports (JobLinesParseTo text) says
lines_end text begin place reading (Ok x) e (after, told) behind = lines_say text begin after x e (behind (Ok (x, after)) told)
lines_end text begin place reading (Err (At line cause)) e told behind = lines_fail text begin (At line cause) e (behind (Err (At line cause)) told)
lines_end text begin place reading (Err Memory) e told behind = tt
