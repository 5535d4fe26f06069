-- The words of a later line, part by part.
use Rattle.std.proofs.Common.{◌≡◌, List, ℕ, Bool, true, false, ap, refl, ◌∙◌, Option, None, Some, Ok, codes}
use Rattle.std.proofs.Common.{option_map, option_and_then, if◌then◌else◌}
use Rattle.trlab_texts.specs.Words.{is_word}
use Rattle.trlab_lines.specs.Lines.{without_prefix, cut}
use Rattle.trlab_jobs.specs.Lines.{rule_words, rule_with_probabilities, step_and_rule, step_of, admit_step}
use Rattle.trlab_jobs.specs.{Lines.{later_words, later_line}, declared.rule_line.RuleLine.RuleLine}

-- the words of a rule after a step
abbrev rule_behind : List ℕ → Option (RuleLine (List ℕ)) → Option (List ℕ × RuleLine (List ℕ))
rule_behind step words = option_map (λ rule. (step, rule)) words

-- the words after `at `
abbrev behind_at : Option (List ℕ) → Option (List ℕ × RuleLine (List ℕ))
behind_at rest = option_and_then step_and_rule (option_and_then (cut 32) rest)

-- the line does not begin with `at `
pub no_at : (text : List ℕ) → None ≡ without_prefix (codes "at ") text → None ≡ later_words text
no_at text p = ap behind_at p

-- no text follows the step
pub no_space : (text rest : List ℕ) → Some rest ≡ without_prefix (codes "at ") text → None ≡ cut 32 rest → None ≡ later_words text
no_space text rest p q = ap (λ (parts : Option (List ℕ × List ℕ)). option_and_then step_and_rule parts) q ∙ ap behind_at p

-- the step, if there is one, and the text after it
cut_said : (text rest step words : List ℕ) → Some rest ≡ without_prefix (codes "at ") text → Some (step, words) ≡ cut 32 rest → step_and_rule (step, words) ≡ later_words text
cut_said text rest step words p q = ap (λ (parts : Option (List ℕ × List ℕ)). option_and_then step_and_rule parts) q ∙ ap behind_at p

-- the step is not a word
pub no_step : (text rest step words : List ℕ) → Some rest ≡ without_prefix (codes "at ") text → Some (step, words) ≡ cut 32 rest → false ≡ is_word step → None ≡ later_words text
no_step text rest step words p q w = ap (λ (b : Bool). if b then rule_behind step (rule_words words) else None) w ∙ cut_said text rest step words p q

-- the text after the step is a rule, or it is not
pub step_said : (text rest step words : List ℕ) (rule : Option (RuleLine (List ℕ))) → Some rest ≡ without_prefix (codes "at ") text → Some (step, words) ≡ cut 32 rest → true ≡ is_word step
    → rule ≡ rule_words words → rule_behind step rule ≡ later_words text
step_said text rest step words rule p q w r =
    ap (rule_behind step) r ∙ (ap (λ (b : Bool). if b then rule_behind step (rule_words words) else None) w ∙ cut_said text rest step words p q)

-- the words of a later line, its numbers, and its step, which is allowed
pub later_said : (room steps least : ℕ) (text : List ℕ) (words : List ℕ × RuleLine (List ℕ)) (step from : ℕ) (rule : RuleLine ℕ) → Some words ≡ later_words text → Ok step ≡ step_of words.0
    → Ok rule ≡ rule_with_probabilities words.1 → Ok from ≡ admit_step room steps least step → Ok (from, rule) ≡ later_line room steps least text
later_said room steps least text words step from rule p q r s = rw (← p, ← q, ← r, ← s) refl
