-- A sweep text whose sixth line states the Nagel-Schreckenberg rule has this rule.
use Rattle.std.proofs.Common.{◌≡◌, ℕ, suc, ◌+◌, Bool, true, false, List, [], ◌∷◌, length, get_or, sym, ◌∙◌}
use Rattle.std.proofs.Common.{ap, subst, arith, Result, Ok, Err, nat_lt}
use Rattle.trlab_rules.specs.{Rules.{ComputesSpeed, Programs, IsNasch}, Published.nasch_speed}
use Rattle.trlab_rules.{specs.Standard.nasch_program, proofs.NaschRuns.nasch_moves}
use Rattle.trlab_bounds.specs.declared.texts.TheConstants.{TEXT_LIMIT}
use Rattle.trlab_texts.specs.{declared.fault.Cause.Cause, Reading.{Rest, all_lines, LocatedFault, Continues}}
use Rattle.trlab_texts.specs.Reading.{LineParsesTo, Reading, SizedTextParsesTo, at_line, before, exactly}
use Rattle.trlab_texts.specs.Reading.{line_with_rest, line, give, ◌>>=◌}
use Rattle.trlab_jobs.specs.{declared.rule_line.RuleLine.{RuleLine, TheVariants.Nasch}, Lines.counts}
use Rattle.trlab_jobs.specs.{Lines.rule_line, Job.{key_line, limit_line}, RuleParts.{IsMotionRule, rule}}
use Rattle.trlab_jobs.specs.{RuleParts.rule_from, Sweep.{cell_count, all_steps, lanes_line, length_line}}
use Rattle.trlab_jobs.specs.Sweep.{shape, span, Setup, Sweep, SweepLinesParseTo, ParsesAsSweep, sweep_heading}
use Rattle.trlab_jobs.{specs.Sweep.{setup, sweep_line, with_counts}, proofs.SweepLines.after_cells}
use Rattle.trlab_jobs.proofs.SweepLines.{after_key, after_limit, after_rule, after_shape}
use Rattle.trlab_asm.specs.Operands.{map_ok}
use Rattle.trlab_campaign.specs.SweepOutput.{stated_rule}

-- the parts of a result
ok_parts : {A B : Type 0} (x y : A) (a b : B) → ◌≡◌ {A = Result (A × B) LocatedFault} (Ok (x, a)) (Ok (y, b)) → (x ≡ y) × (a ≡ b)
ok_parts {A = A} {B = B} x y a b h = let e : ◌≡◌ {A = A × B} (x, a) (y, b) = cc h in (ap (λ (p : A × B). p.0) e, ap (λ (p : A × B). p.1) e)

-- if two readings in a row succeed, each of them succeeds
record Both {A B : Type 0} (first : Reading A) (next : A → Reading B) (rest : Rest) (out : B × Rest) : Type 0 where
  x : A
  after : Rest
  one : first rest (Ok (x, after))
  two : next x after (Ok out)

both : {A B : Type 0} (first : Reading A) (next : A → Reading B) (rest : Rest) (out : B × Rest) (found : Result (A × Rest) LocatedFault) → first rest found → Continues next found (Ok out) → Both first next rest out
both first next rest out (Ok found) one two = record { x = found.0; after = found.1; one = one; two = two }
both first next rest out (Err fault) one two = absurd (cc two)

-- a reading that takes a number of lines: index i of the rest is index i plus this number before it
record Takes {A : Type 0} (reading : Reading A) (n : ℕ) : Type 0 where
  left : (rest : Rest) (x : A) (after : Rest) (k : ℕ) → reading rest (Ok (x, after)) → get_or rest.left (n + k) [] ≡ get_or after.left k []

-- the meaning of one line
record Line {A : Type 0} (says : List ℕ → Result A Cause) (left : List (List ℕ)) (x : A) (after : Rest) : Type 0 where
  said : says (get_or left 0 []) ≡ Ok x
  behind : (k : ℕ) → get_or left (1 + k) [] ≡ get_or after.left k []

one_line : {A : Type 0} (says : List ℕ → Result A Cause) (number : ℕ) (left : List (List ℕ)) (x : A) (after : Rest) → LineParsesTo (exactly says) number left (Ok (x, after)) → Line says left x after
one_line says number [] x after told = absurd (cc told)
one_line {A = A} says number (text ∷ left) x after told = of_said told.0 told.1.0 told.1.1
  where
    of_said : (said : Result A Cause) → said ≡ says text → Ok (x, after) ≡ line_with_rest number left said → Line says (text ∷ left) x after
    of_said (Ok y) is out =
        let behind_it : Rest = record { number = number + 1; left = left } in
        let parts = ok_parts x y after behind_it out in
        let same : x ≡ y = parts.0 in
        let rest : after.left ≡ left = ap (λ (r : Rest). r.left) parts.1 in
        record {
          said = sym is ∙ ap Ok (sym same);
          behind = λ k. let e : 1 + k ≡ suc k = omega arith in ap (λ i. get_or (text ∷ left) i []) e ∙ ap (λ (ls : List (List ℕ)). get_or ls k []) (sym rest);
        }
    of_said (Err cause) is out = absurd (cc out)

line_takes : {A : Type 0} (says : List ℕ → Result A Cause) → Takes (line (exactly says)) 1
line_takes says = record { left = λ rest x after k told. (one_line says rest.number rest.left x after told).behind k }

then_takes : {A B : Type 0} (first : Reading A) (next : A → Reading B) (m n : ℕ) → Takes first m → ((x : A) → Takes (next x) n) → Takes (first >>= next) (m + n)
then_takes first next m n a b = record {
  left = λ rest out after k told.
      let two = both first next rest (out, after) told.0 told.1.0 told.1.1 in
      let e : m + n + k ≡ m + (n + k) = omega arith in
      ap (λ i. get_or rest.left i []) e ∙ a.left rest two.x two.after (n + k) two.one ∙ (b two.x).left two.after out after k two.two;
}

say_takes : {A : Type 0} (x : A) → Takes (give x) 0
say_takes x = record {
  left = λ rest out after k told.
      let e : 0 + k ≡ k = omega arith in
      let same : after ≡ rest = (ok_parts out x after rest told).1 in
      ap (λ i. get_or rest.left i []) e ∙ ap (λ (r : Rest). get_or r.left k []) (sym same);
}

-- the lines before the rule
heading_takes : Takes sweep_heading 2
heading_takes = then_takes (line (exactly sweep_line)) (λ _. line (exactly key_line)) 1 1 (line_takes sweep_line) (λ _. line_takes key_line)

shape_takes : Takes shape 3
shape_takes =
    then_takes (line (exactly limit_line)) after_limit 1 2 (line_takes limit_line)
    (λ limit. then_takes (line (exactly length_line)) (after_cells limit) 1 1 (line_takes length_line)
    (λ cells. then_takes (line (exactly lanes_line)) (λ lanes. give (record { limit = limit; length = cells; lanes = lanes })) 1 0 (line_takes lanes_line) (λ lanes. say_takes _)))

-- a line that states the Nagel-Schreckenberg rule gives this rule
is_nasch : (p : ℕ) (first : Programs) → IsMotionRule (nasch_program p) (Ok first) → IsNasch p first
is_nasch p first says = record {
  motion = record {
    same = says.0.0;
    accepted = says.0.1.0;
    moves = subst (ComputesSpeed (nasch_speed p)) (sym says.0.0) (nasch_moves p);
  };
  change = says.1;
}

nasch_from : (p number lanes : ℕ) (rest after : Rest) (first : Programs) → rule_from lanes number (Nasch p) rest (Ok (first, after)) → IsNasch p first
nasch_from p number lanes rest after first told = of_said told.0 told.1.0 told.1.1
  where
    of_said : (said : Result Programs Cause) → IsMotionRule (nasch_program p) said → Ok (first, after) ≡ before rest (at_line number said) → IsNasch p first
    of_said (Ok other) says out = subst (IsNasch p) (sym (ok_parts first other after rest out).0) (is_nasch p other says)
    of_said (Err cause) says out = absurd (cc out)

rule_is : (p lanes : ℕ) (rest after : Rest) (first : Programs) → rule_line (get_or rest.left 0 []) ≡ Ok (Nasch p) → rule lanes rest (Ok (first, after)) → IsNasch p first
rule_is p lanes rest after first stated told =
    let two = both (line (exactly rule_line)) (rule_from lanes rest.number) rest (first, after) told.0 told.1.0 told.1.1 in
    let one = one_line rule_line rest.number rest.left two.x two.after two.one in
    let same : two.x ≡ Nasch p = (let e = sym one.said ∙ stated in cc e) in
    nasch_from p rest.number lanes two.after after first (subst (λ (stands : RuleLine ℕ). rule_from lanes rest.number stands two.after (Ok (first, after))) same two.two)

setup_is : (p : ℕ) (rest after : Rest) (common : Setup) → rule_line (get_or rest.left 5 []) ≡ Ok (Nasch p) → setup rest (Ok (common, after)) → IsNasch p common.rule
unfolding setup
setup_is p rest after common stated told =
    let key = both sweep_heading after_key rest (common, after) told.0 told.1.0 told.1.1 in
    let roads = both shape (after_shape key.x) key.after (common, after) key.two.0 key.two.1.0 key.two.1.1 in
    let first = both (rule roads.x.lanes) (after_rule key.x roads.x) roads.after (common, after) roads.two.0 roads.two.1.0 roads.two.1.1 in
    let steps = both span (λ steps. give (record { key = key.x; shape = roads.x; rule = first.x; span = steps })) first.after (common, after) first.two.0 first.two.1.0 first.two.1.1 in
    let lines : get_or rest.left 5 [] ≡ get_or roads.after.left 0 [] = heading_takes.left rest key.x key.after 3 key.one ∙ shape_takes.left key.after roads.x roads.after 0 roads.one in
    let there = rule_is p roads.x.lanes roads.after first.after first.x (ap rule_line (sym lines) ∙ stated) first.one in
    let whole : Setup = record { key = key.x; shape = roads.x; rule = first.x; span = steps.x } in
    let same : first.x ≡ common.rule = sym (ap (λ (s : Setup). s.rule) (ok_parts common whole after steps.after steps.two).0) in
    subst (IsNasch p) same there

lines_are : (p : ℕ) (text : List ℕ) (sweep : Sweep) → stated_rule text ≡ Ok (Nasch p) → SweepLinesParseTo text (Ok sweep) → IsNasch p sweep.setup.rule
lines_are p text sweep stated says = of_found says.0 says.1.0 says.1.1
  where
    of_counts : (common : Setup) (cars : Result (List ℕ) LocatedFault) → IsNasch p common.rule → Ok sweep ≡ map_ok (λ cars. record { setup = common; cars = cars }) cars → IsNasch p sweep.setup.rule
    of_counts common (Ok cars) is out = let same : sweep ≡ record { setup = common; cars = cars } = cc out in subst (λ (s : Sweep). IsNasch p s.setup.rule) (sym same) is
    of_counts common (Err fault) is out = absurd (cc out)

    of_found : (found : Result (Setup × Rest) LocatedFault) → setup (all_lines text) found → Ok sweep ≡ with_counts found → IsNasch p sweep.setup.rule
    of_found (Ok found) told out =
        of_counts found.0 (counts (cell_count found.0.shape) (all_steps found.0.span) found.1.number found.1.left) (setup_is p (all_lines text) found.1 found.0 stated told) out
    of_found (Err fault) told out = absurd (cc out)

pub stated_nasch : (p : ℕ) (text : List ℕ) (sweep : Sweep) → stated_rule text ≡ Ok (Nasch p) → ParsesAsSweep text (Ok sweep) → IsNasch p sweep.setup.rule
stated_nasch p text sweep stated says = of_size (nat_lt TEXT_LIMIT (length text)) says
  where
    of_size : (big : Bool) → SizedTextParsesTo SweepLinesParseTo big text (Ok sweep) → IsNasch p sweep.setup.rule
    of_size true told = absurd (cc told)
    of_size false told = lines_are p text sweep stated told
