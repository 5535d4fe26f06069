-- The number of lines of a text, and whether it has any.
use Rattle.std.proofs.Common.{◌≡◌, ◌==◌, ℕ, suc, ◌≤◌, List, [], ◌∷◌, length, refl, sym, ◌∙◌, arith, Bool}
use Rattle.std.{proofs.Common.{true, false, cond, IsTrue, ◌↔◌, eqb-true, eq-eqb}, specs.List.onto_first}
use Rattle.trlab_lines.{specs.Lines.lines_of, proofs.Cuts.no_line_in}

onto_some : (c : ℕ) (lines : List (List ℕ)) → onto_first c lines ≡ [] → ⊥
onto_some c [] e = cc
onto_some c (first ∷ lines) e = cc

some_line : (b : Bool) (c : ℕ) (lines : List (List ℕ)) → cond b ([] ∷ lines) (onto_first c lines) ≡ [] → ⊥
some_line true c lines e = cc
some_line false c lines e = onto_some c lines e

-- a text without lines is empty
pub no_text_in : (text : List ℕ) → lines_of text ≡ [] → length text ≡ 0
unfolding lines_of
no_text_in [] e = refl
no_text_in (c ∷ text) e = absurd (some_line (c == 10) c (lines_of text) e)

-- a text is empty exactly if it has no lines
pub end_test : (text : List ℕ) (b : Bool) → b ≡ (length text == 0) → IsTrue b ↔ (lines_of text ≡ [])
end_test text true e = (λ h. no_line_in text (eqb-true (length text) 0 (sym e)), λ h. refl)
end_test text false e = (λ h. let no : false ≡ true = h in cc, λ h. let no : true ≡ false = sym (eq-eqb (length text) 0 (no_text_in text h)) ∙ sym e in cc)

few_onto : (c : ℕ) (lines : List (List ℕ)) (n : ℕ) → length lines ≤ n → length (onto_first c lines) ≤ suc n
few_onto c [] n few = omega arith
few_onto c (first ∷ lines) n few = omega arith

few_more : (b : Bool) (c : ℕ) (lines : List (List ℕ)) (n : ℕ) → length lines ≤ n → length (cond b ([] ∷ lines) (onto_first c lines)) ≤ suc n
few_more true c lines n few = omega arith
few_more false c lines n few = few_onto c lines n few

-- a text has at most as many lines as bytes
pub few_lines : (text : List ℕ) → length (lines_of text) ≤ length text
unfolding lines_of
few_lines [] = omega arith
few_lines (c ∷ text) = few_more (c == 10) c (lines_of text) (length text) (few_lines text)
