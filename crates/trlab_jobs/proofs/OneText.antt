-- A job text has exactly one meaning: a job that can be run, or a first fault.
use Rattle.std.proofs.Common.{◌≡◌, ℕ, List, length, refl, ◌∙◌, ap, Result, Ok, Err, IfOk, codes}
use Rattle.trlab_bounds.specs.declared.{roads.TheConstants.MAX_LIMIT, runs.TheConstants.MAX_STEPS}
use Rattle.trlab_road.specs.Cells.{Cells, IsLegal}
use Rattle.trlab_rules.specs.Rules.{Programs}
use Rattle.trlab_step.specs.Run.{Sheet}
use Rattle.trlab_texts.specs.Reading.{Rest, all_lines, LocatedFault, Reading, line, exactly}
use Rattle.trlab_texts.proofs.Fine.{Anything, FineText, InRange, numbered}
use Rattle.trlab_texts.proofs.OneAnswer.{OnePart, OneText, OneReading, agree, said, fails, values, exact_line}
use Rattle.trlab_texts.proofs.OneAnswer.{then_one, said_one, text_one}
use Rattle.trlab_jobs.specs.Job.{lanes, Job, job, road_line, key_line, limit_line, steps_line}
use Rattle.trlab_jobs.specs.{Job.{ReadingHasResult, JobLinesParseTo, ParsesAsJob}, RuleParts.rule}
use Rattle.trlab_jobs.specs.{RuleParts.later_rules, Stored.IsStoredJob, Laws.HasSomeResult}
use Rattle.trlab_jobs.specs.Laws.{HasAtMostOneResult, NeverRefusesStandardRules}
use Rattle.trlab_jobs.proofs.{FineLines.{fixed_fine, key_line_fine}, JobLines.{after_road, after_key}}
use Rattle.trlab_jobs.proofs.JobLines.{after_limit, after_lanes, after_rule, after_steps, after_all}
use Rattle.trlab_jobs.proofs.{OneLanes.lanes_one, OneRule.{FewLanes, rule_one, later_rules_one}}

pub key_one : OneReading Anything (line (exactly key_line))
key_one = exact_line key_line key_line_fine

pub limit_one : OneReading (InRange 1 MAX_LIMIT) (line (exactly limit_line))
limit_one = exact_line limit_line (λ text. numbered (codes "limit ") text 1 MAX_LIMIT)

few_lanes : (road : Cells) → IsLegal road → FewLanes (length road.lanes)
few_lanes road legal = record { some = legal.shape.lanes.some_lane; few = legal.shape.lanes.few_lanes }

-- the part that is read after the lanes
lanes_on : (key : List ℕ) (road : Cells) → IsLegal road → OneReading IsStoredJob (after_lanes key road)
lanes_on key road legal =
    let few = few_lanes road legal in
    then_one (rule (length road.lanes)) (after_rule key road) (rule_one (length road.lanes) few) (λ first suits.
    then_one (line (exactly steps_line)) (after_steps key road first) (exact_line steps_line (λ text. numbered (codes "steps ") text 0 MAX_STEPS)) (λ steps any.
    then_one (later_rules (length road.lanes) steps) (after_all key road first steps) (later_rules_one (length road.lanes) steps few) (λ later kept.
    said_one (record { key = key; road = road; first = first; later = later; steps = steps })
    (record { legal = legal; first = suits; later = kept.0; steps = any.high; few = kept.1 }))))

-- once the rules and the number of steps were read, the job can be run
pub rules_stored : (key : List ℕ) (road : Cells) (first : Programs) (later : Sheet) (steps : ℕ) (place after_rule after_steps end : Rest) → IsLegal road
    → rule (length road.lanes) place (Ok (first, after_rule)) → line (exactly steps_line) after_rule (Ok (steps, after_steps))
    → later_rules (length road.lanes) steps after_steps (Ok (later, end))
    → IsStoredJob (record { key = key; road = road; first = first; later = later; steps = steps })
rules_stored key road first later steps place after_rule after_steps end legal suits counted kept =
    let few = few_lanes road legal in
    let range = values (steps, after_steps) (exact_line steps_line (λ text. numbered (codes "steps ") text 0 MAX_STEPS) after_rule).one counted in
    let fit = values (later, end) (later_rules_one (length road.lanes) steps few after_steps).one kept in
    record {
      legal = legal;
      first = values (first, after_rule) (rule_one (length road.lanes) few place).one suits;
      later = fit.0;
      steps = range.high;
      few = fit.1;
    }

job_one : OneReading IsStoredJob job
unfolding job
job_one =
    then_one (line (exactly road_line)) (λ _. after_road) (exact_line road_line (fixed_fine (codes "road 1"))) (λ _ any.
    then_one (line (exactly key_line)) after_key key_one (λ key any.
    then_one (line (exactly limit_line)) (after_limit key) limit_one (λ limit any.
    then_one (lanes limit) (after_lanes key) (lanes_one limit) (lanes_on key))))

-- a result without its end
abbrev without_rest : {A : Type 0} → Result (A × Rest) LocatedFault → Result A LocatedFault
without_rest (Ok found) = Ok found.0
without_rest (Err fault) = Err fault

without_rest_says : {A : Type 0} (P : A → Type 0) (reading : Reading A) (place : Rest) (out : Result (A × Rest) LocatedFault) → reading place out → FineText (λ (found : A × Rest). P found.0) out
    → ReadingHasResult reading place (without_rest out) × FineText P (without_rest out)
without_rest_says P reading place (Ok found) says fine = ((found.1, says), fine)
without_rest_says P reading place (Err fault) says fine = (says, fine)

with_rest : {A : Type 0} (reading : Reading A) (place : Rest) (says : Result A LocatedFault) → ReadingHasResult reading place says
    → (out : Result (A × Rest) LocatedFault) × (reading place out × (says ≡ without_rest out))
with_rest reading place (Ok x) p = (Ok (x, p.0), (p.1, refl))
with_rest reading place (Err fault) p = (Err fault, (p, refl))

-- the meaning of a text is the meaning of its lines up to the end
to_the_end : {A : Type 0} {P : A → Type 0} (reading : Reading A) (place : Rest) → OnePart P (reading place) → OneText P (ReadingHasResult reading place)
to_the_end {A} {P} reading place part =
    let one = part.one in
    let found = without_rest_says P reading place one.answer one.says one.keeps in
    record {
      answer = without_rest one.answer;
      says = found.0;
      keeps = found.1;
      only = λ other p. let also = with_rest reading place other p in also.1.1 ∙ ap without_rest (one.only also.0 also.1.0);
    }

pub job_text : (text : List ℕ) → OneText IsStoredJob (ParsesAsJob text)
job_text text = text_one JobLinesParseTo text (to_the_end job (all_lines text) (job_one (all_lines text)))

-- a job text has a meaning, and without a fault this can be run
pub says_plain : (text : List ℕ) → (says : Result Job LocatedFault) × (ParsesAsJob text says × IfOk says IsStoredJob)
says_plain text = said (job_text text)

pub something : HasSomeResult ParsesAsJob
something text = let one = job_text text in (one.answer, one.says)

pub one_thing : HasAtMostOneResult ParsesAsJob
one_thing text says other p q = agree says other (job_text text) p q

pub jobs_never : NeverRefusesStandardRules ParsesAsJob
jobs_never text fault p = fails fault (job_text text) p
