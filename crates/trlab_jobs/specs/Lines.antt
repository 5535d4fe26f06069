-- Lines with numbers in texts: those that state rules, and the lines `cars n` of a sweep text.
use Rattle.std.specs.Prelude.{ℕ, ◌==◌, ◌&&◌, List, codes, nat_le, nat_lt, Option, None, Some, ok_or, Result}
use Rattle.std.specs.Prelude.{Ok, Err, option_map, option_and_then, if◌then◌else◌, bytes_eq, ◌+◌, ◌*◌, []}
use Rattle.std.specs.Prelude.{◌∷◌}
use Rattle.trlab_bounds.specs.declared.{programs.TheConstants.CERTAIN, texts.TheConstants.LONGEST_NUMBER}
use Rattle.trlab_texts.specs.declared.fault.Cause.{Cause, TheVariants.{Line, Order, TooMany, Road, Work}}
use Rattle.trlab_texts.specs.Words.{is_word, as_word, two_words, number_of, within, word_after, number_within}
use Rattle.trlab_texts.specs.Reading.{LocatedFault, at_line}
use Rattle.trlab_jobs.specs.declared.rule_line.RuleLine.{RuleLine, TheVariants.{Nasch, Vdr, Rickert, Own}}
use Rattle.trlab_jobs.specs.declared.limits.TheConstants.{MAX_CARS, MAX_POINTS, MAX_WORK}
use Rattle.trlab_lines.specs.Lines.{without_prefix, cut}
use Rattle.trlab_asm.specs.Operands.{◌>>=◌}
use Rattle.trlab_road.specs.declared.fault.RoadFault.TheVariants.{TooManyCars}

-- The lines that state rules: their words, and then their numbers.

-- the rule `own`, which has no words of its own, for the line `rule own`; none for any other line
abbrev pub own_words : List ℕ → Option (RuleLine (List ℕ))
own_words text = if bytes_eq text (codes "rule own") then Some Own else None

-- the words t and c of the line `rule rickert t c`, from the text after `rule rickert `; none if that text is
-- not two words, and `others` if the line has another name
abbrev pub rickert_words : Option (List ℕ) → Option (RuleLine (List ℕ)) → Option (RuleLine (List ℕ))
rickert_words None others = others
rickert_words (Some after) others = option_map (λ two. Rickert two.0 two.1) (two_words after)

-- the words t and t0 of the line `rule vdr t t0`, from the text after `rule vdr `; none if that text is not
-- two words, and `others` if the line has another name
abbrev pub vdr_words : Option (List ℕ) → Option (RuleLine (List ℕ)) → Option (RuleLine (List ℕ))
vdr_words None others = others
vdr_words (Some after) others = option_map (λ two. Vdr two.0 two.1) (two_words after)

-- the word t of the line `rule nasch t`, from the text after `rule nasch `; none if that text is not one
-- word, and `others` if the line has another name
abbrev pub nasch_words : Option (List ℕ) → Option (RuleLine (List ℕ)) → Option (RuleLine (List ℕ))
nasch_words None others = others
nasch_words (Some after) others = option_map Nasch (as_word after)

-- the rule that a line states, with words for its probabilities: `nasch`, `vdr`, `rickert` or `own`; none for
-- any other line. For example, `rule vdr 5 x` is `vdr` with the words `5` and `x`
abbrev pub rule_words : List ℕ → Option (RuleLine (List ℕ))
rule_words text =
    nasch_words (without_prefix (codes "rule nasch ") text)
    (vdr_words (without_prefix (codes "rule vdr ") text)
    (rickert_words (without_prefix (codes "rule rickert ") text) (own_words text)))

-- the probability, times 2^31, that a word states: a number from 0 to CERTAIN, or else the cause `Number`
abbrev pub probability_of : List ℕ → Result ℕ Cause
probability_of word = within 0 CERTAIN (number_of word)

-- the rule whose words are read as probabilities; the cause `Number` if a word is not a number from 0 to
-- CERTAIN
abbrev pub rule_with_probabilities : RuleLine (List ℕ) → Result (RuleLine ℕ) Cause
rule_with_probabilities (Nasch word) = probability_of word >>= λ p. Ok (Nasch p)
rule_with_probabilities (Vdr word word0) =
    probability_of word >>= λ p. probability_of word0 >>= λ p0. Ok (Vdr p p0)
rule_with_probabilities (Rickert word word1) =
    probability_of word >>= λ p. probability_of word1 >>= λ c. Ok (Rickert p c)
rule_with_probabilities Own = Ok Own

-- the rule that a line states, with its probabilities times 2^31; the cause `Line` if its words are not those
-- of a rule, and otherwise `Number` if a word is not a number from 0 to CERTAIN
abbrev pub rule_line : List ℕ → Result (RuleLine ℕ) Cause
rule_line text = ok_or (rule_words text) Line >>= rule_with_probabilities

-- the word of a step and the words of a rule, from the two parts of a line after `at `; none if the first
-- part is not one word or the second part does not state a rule
abbrev pub step_and_rule : List ℕ × List ℕ → Option (List ℕ × RuleLine (List ℕ))
step_and_rule parts =
    if is_word parts.0 then option_map (λ rule. (parts.0, rule)) (rule_words parts.1) else None

-- the word s and the words of the rule on the line `at s rule ..`; none for any other line. For example,
-- `at 100 rule own` has the word `100` and the rule `own`
abbrev pub later_words : List ℕ → Option (List ℕ × RuleLine (List ℕ))
later_words text =
    option_and_then step_and_rule (option_and_then (cut 32) (without_prefix (codes "at ") text))

-- the number of a step that a word writes, from 0 to LONGEST_NUMBER; otherwise the cause `Number`
abbrev pub step_of : List ℕ → Result ℕ Cause
step_of word = within 0 LONGEST_NUMBER (number_of word)

-- the step of a later rule in a run of `steps` steps, or a cause: `TooMany` if no more rules may come (`room`
-- is 0), and then `Order` if the step is below `least` or not below `steps`
abbrev pub admit_step : ℕ → ℕ → ℕ → ℕ → Result ℕ Cause
admit_step room steps least step =
    if room == 0 then Err TooMany
    else if nat_le least step && nat_lt step steps then Ok step
    else Err Order

-- the step and the rule on the line `at s rule ..`, in a run of `steps` steps; its causes come in this order:
-- wrong words, wrong numbers, no `room`, a step below `least` or not below `steps`
abbrev pub later_line : ℕ → ℕ → ℕ → List ℕ → Result (ℕ × RuleLine ℕ) Cause
later_line room steps least text =
    ok_or (later_words text) Line >>= λ words.
    step_of words.0 >>= λ step.
    rule_with_probabilities words.1 >>= λ rule.
    admit_step room steps least step >>= λ from.
    Ok (from, rule)

-- The lines `cars n` of a sweep text, one for each point.

-- the number of cars of a sweep's point, of which `point` is the number, counted from 1; or the first of
-- these causes: more than MAX_POINTS points, more cars than the `cells` of a road, more than MAX_WORK steps
-- for the points up to this one, with `steps` for each
abbrev pub admit_cars : ℕ → ℕ → ℕ → ℕ → Result ℕ Cause
admit_cars cells steps point count =
    if nat_lt MAX_POINTS point then Err TooMany
    else if nat_lt cells count then Err (Road TooManyCars)
    else if nat_lt MAX_WORK (point * steps) then Err Work
    else Ok count

-- the number of cars on the line `cars n` of a point, from 0 to MAX_CARS; the cause `Number` for any other
-- number comes before those of `admit_cars`
abbrev pub cars_line : ℕ → ℕ → ℕ → List ℕ → Result ℕ Cause
cars_line cells steps point text =
    number_within 0 MAX_CARS (word_after (codes "cars ") text) >>= admit_cars cells steps point

-- the numbers of cars on the lines that are left, or their first fault: the lines are those of the points
-- `point`, `point + 1` and so on, and have the numbers `number`, `number + 1` and so on in the text
unfoldable pub counts_from : ℕ → ℕ → ℕ → ℕ → List (List ℕ) → Result (List ℕ) LocatedFault
counts_from cells steps point number [] = Ok []
counts_from cells steps point number (text ∷ left) =
    at_line number (cars_line cells steps point text) >>= λ count.
    counts_from cells steps (point + 1) (number + 1) left >>= λ counts.
    Ok (count ∷ counts)

-- the numbers of cars of all points, one on each line that is left, or the first fault: 0 and 10 for the
-- lines `cars 0` and `cars 10`; if no line is left, the line `number` is missing
abbrev pub counts : ℕ → ℕ → ℕ → List (List ℕ) → Result (List ℕ) LocatedFault
counts cells steps number [] = Err (record { line = number; cause = Line })
counts cells steps number (text ∷ left) = counts_from cells steps 1 number (text ∷ left)
