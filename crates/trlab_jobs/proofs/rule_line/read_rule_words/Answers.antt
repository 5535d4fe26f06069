use Rattle.std.proofs.Common.{◌≡◌, ◌∙◌, ℕ, Bool, List, Option, None, Some, ap, codes, option_map}
use Rattle.std.proofs.Common.{if◌then◌else◌}
use Rattle.trlab_lines.specs.Lines.{without_prefix}
use Rattle.trlab_jobs.specs.declared.rule_line.RuleLine.{RuleLine, TheVariants.{Nasch, Vdr, Rickert, Own}}
use Rattle.trlab_jobs.specs.Lines.{own_words, rickert_words, vdr_words, nasch_words, rule_words}
use Rattle.trlab_jobs.proofs.rule_line.read_rule_words.Goals as goal

-- the words after the names, none of which the line begins with
abbrev after_vdr : List ℕ → Option (RuleLine (List ℕ))
after_vdr text = rickert_words (without_prefix (codes "rule rickert ") text) (own_words text)

abbrev after_nasch : List ℕ → Option (RuleLine (List ℕ))
after_nasch text = vdr_words (without_prefix (codes "rule vdr ") text) (after_vdr text)

by_nasch : (text : List ℕ) (words : Option (List ℕ)) → words ≡ without_prefix (codes "rule nasch ") text → nasch_words words (after_nasch text) ≡ rule_words text
by_nasch text words e = ap (λ w. nasch_words w (after_nasch text)) e

by_vdr : (text : List ℕ) (words : Option (List ℕ)) → None ≡ without_prefix (codes "rule nasch ") text → words ≡ without_prefix (codes "rule vdr ") text → vdr_words words (after_vdr text) ≡ rule_words text
by_vdr text words nasch e = ap (λ w. vdr_words w (after_vdr text)) e ∙ by_nasch text None nasch

by_rickert : (text : List ℕ) (words : Option (List ℕ)) → None ≡ without_prefix (codes "rule nasch ") text → None ≡ without_prefix (codes "rule vdr ") text → words ≡ without_prefix (codes "rule rickert ") text
    → rickert_words words (own_words text) ≡ rule_words text
by_rickert text words nasch vdr e = ap (λ w. rickert_words w (own_words text)) e ∙ by_vdr text None nasch vdr

-- the words of the last of the four lines
abbrev own_if : Bool → Option (RuleLine (List ℕ))
own_if own = if own then Some Own else None

pub returns-in-Some-as_word : goal.returns-in-Some-as_word
returns-in-Some-as_word c = ap (option_map (λ (brake : List ℕ). Nasch brake)) c.in-Some-as_word.ensures ∙ by_nasch c.args.line.now _ c.in-Some.ensures

pub returns-in-None : goal.returns-in-None
returns-in-None c = ap (option_map (λ (brake : List ℕ). Nasch brake)) c.in-None.ensures ∙ by_nasch c.args.line.now _ c.in-Some.ensures

pub returns-in-Some-two_words : goal.returns-in-Some-two_words
returns-in-Some-two_words c =
    ap (option_map (λ (two : List ℕ × List ℕ). Vdr two.0 two.1)) c.in-Some-two_words.ensures ∙ by_vdr c.args.line.now _ c.in_default.ensures c.in-Some-after.ensures

pub returns-in-None-two_words : goal.returns-in-None-two_words
returns-in-None-two_words c =
    ap (option_map (λ (two : List ℕ × List ℕ). Vdr two.0 two.1)) c.in-None-two_words.ensures ∙ by_vdr c.args.line.now _ c.in_default.ensures c.in-Some-after.ensures

pub returns-in-Some-two_words-2 : goal.returns-in-Some-two_words-2
returns-in-Some-two_words-2 c =
    ap (option_map (λ (two : List ℕ × List ℕ). Rickert two.0 two.1)) c.in-Some-two_words-2.ensures
    ∙ by_rickert c.args.line.now _ c.in_default.ensures c.in_default-after.ensures c.in-Some-after-2.ensures

pub returns-in-None-two_words-2 : goal.returns-in-None-two_words-2
returns-in-None-two_words-2 c =
    ap (option_map (λ (two : List ℕ × List ℕ). Rickert two.0 two.1)) c.in-None-two_words-2.ensures
    ∙ by_rickert c.args.line.now _ c.in_default.ensures c.in_default-after.ensures c.in-Some-after-2.ensures

pub returns-then-eq : goal.returns-then-eq
returns-then-eq c =
    let own = rw (c.as_slice.ensures, c.bytes.ensures) at c.if-eq.ensures in
    ap own_if own ∙ by_rickert c.args.line.now None c.in_default.ensures c.in_default-after.ensures c.in_default-after-2.ensures

pub returns-else-eq : goal.returns-else-eq
returns-else-eq c =
    let other = rw (c.as_slice.ensures, c.bytes.ensures) at c.if-eq.ensures in
    ap own_if other ∙ by_rickert c.args.line.now None c.in_default.ensures c.in_default-after.ensures c.in_default-after-2.ensures
