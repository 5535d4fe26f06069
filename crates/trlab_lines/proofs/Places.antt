-- Places in a text: the rest of the text from a line on.
use Rattle.std.proofs.Common.{◌≡◌, ◌≢◌, ℕ, zero, suc, ◌+◌, ◌-◌, ◌<◌, ◌≤◌, ◌==◌, ◌^◌, min, Bool, true, false}
use Rattle.std.proofs.Common.{Option, None, Some, List, [], ◌∷◌, ◌++◌, length, drop, get_or, if◌then◌else◌}
use Rattle.std.proofs.Common.{refl, sym, ◌∙◌, ap, subst, inl, inr, arith, append_assoc, append-nil}
use Rattle.std.proofs.{Common.{length-append, drop-drop, drop_at, slice_get}, Math.Seq.drop-nil}
use Rattle.std.{proofs.lemmas.{Bool.cases_lt, List.drop_all}, specs.List.onto_first}
use Rattle.trlab_lines.specs.Lines.{lines_of, line_at, BeginsWithLine}

-- a text that is not empty has a line
some_line : (c : ℕ) (end : Bool) (parts : List (List ℕ)) → (if end then [] ∷ parts else onto_first c parts) ≢ []
some_line c true parts is = absurd (cc is)
some_line c false [] is = absurd (cc is)
some_line c false (part ∷ parts) is = absurd (cc is)

no_text : (text : List ℕ) → lines_of text ≡ [] → text ≡ []
unfolding lines_of
no_text [] none = refl
no_text (c ∷ text) none = absurd (some_line c (c == 10) (lines_of text) none)

-- after the first line come the other lines
behind_first : (end : Bool) (c : ℕ) (text : List ℕ) (parts : List (List ℕ)) → lines_of text ≡ parts
    → ((first : List ℕ) (others : List (List ℕ)) → lines_of text ≡ first ∷ others → lines_of (drop (length first + 1) text) ≡ others)
    → (line : List ℕ) (more : List (List ℕ)) → (if end then [] ∷ parts else onto_first c parts) ≡ line ∷ more
    → lines_of (drop (length line + 1) (c ∷ text)) ≡ more
unfolding lines_of
behind_first true c text parts said shorter line more is =
    let none : [] ≡ line = ap (λ (ls : List (List ℕ)). get_or ls 0 []) is in
    let rest : parts ≡ more = ap (drop 1) is in
    subst (λ (l : List ℕ). lines_of (drop (length l + 1) (c ∷ text)) ≡ more) none (said ∙ rest)
behind_first false c text [] said shorter line more is =
    let only : c ∷ [] ≡ line = ap (λ (ls : List (List ℕ)). get_or ls 0 []) is in
    let rest : [] ≡ more = ap (drop 1) is in
    let none : [] ≡ text = sym (no_text text said) in
    let empty : lines_of [] ≡ more = rest in
    subst (λ (l : List ℕ). lines_of (drop (length l + 1) (c ∷ text)) ≡ more) only (subst (λ (t : List ℕ). lines_of (drop 2 (c ∷ t)) ≡ more) none empty)
behind_first false c text (part ∷ parts) said shorter line more is =
    let first : c ∷ part ≡ line = ap (λ (ls : List (List ℕ)). get_or ls 0 []) is in
    let rest : parts ≡ more = ap (drop 1) is in
    let longer : length (c ∷ part) + 1 ≡ suc (length part + 1) = omega arith in
    let from : lines_of (drop (length (c ∷ part) + 1) (c ∷ text)) ≡ more = rw longer (shorter part parts said ∙ rest) in
    subst (λ (l : List ℕ). lines_of (drop (length l + 1) (c ∷ text)) ≡ more) first from

pub after_line : (text line : List ℕ) (more : List (List ℕ)) → lines_of text ≡ line ∷ more → lines_of (drop (length line + 1) text) ≡ more
unfolding lines_of
after_line [] line more is = absurd (cc is)
after_line (c ∷ text) line more is = behind_first (c == 10) c text (lines_of text) refl (after_line text) line more is

-- one more element is dropped
dropped_more : {X : Type 0} (k : ℕ) (xs : List X) (x : X) (more : List X) → x ∷ more ≡ drop k xs → more ≡ drop (suc k) xs
dropped_more zero xs x more is = ap (drop 1) is
dropped_more (suc k) [] x more is = absurd (cc is)
dropped_more (suc k) (y ∷ xs) x more is = dropped_more k xs x more is

abbrev with_first : {X : Type 0} → List X → Option X → List X
with_first xs None = xs
with_first xs (Some x) = x ∷ xs

-- from an element on
from_element : {X : Type 0} (xs : List X) (n : ℕ) (x : X) → slice_get xs n ≡ Some x → drop n xs ≡ x ∷ drop (suc n) xs
from_element [] n x is = absurd (cc is)
from_element (y ∷ xs) zero x is = ap (with_first xs) is
from_element (y ∷ xs) (suc n) x is = from_element xs n x is

past_elements : {X : Type 0} (xs : List X) (n : ℕ) → slice_get xs n ≡ None → length xs ≤ n
past_elements [] n is = omega arith
past_elements (x ∷ xs) zero is = absurd (cc is)
past_elements (x ∷ xs) (suc n) is = let e = past_elements xs n is in omega (arith, e)

-- the rest of a text while its lines are counted down from `number` to `ahead`
pub record IsUnread (text left : List ℕ) (number ahead : ℕ) : Type 0 where
  pub above : List ℕ
  pub whole : text ≡ above ++ left
  pub lines : lines_of left ≡ drop (number - ahead) (lines_of text)
  pub within : ahead ≤ number
  pub counted : min 1 number ≤ ahead

split_line : (text above left line rest : List ℕ) → text ≡ above ++ left → BeginsWithLine left line rest → (before : List ℕ) × (text ≡ before ++ rest)
split_line text above left line rest whole (inl ended) =
    (above ++ (line ++ (10 ∷ [])), whole ∙ (ap (λ l. above ++ l) (ended ∙ sym (append_assoc line (10 ∷ []) rest)) ∙ sym (append_assoc above (line ++ (10 ∷ [])) rest)))
split_line text above left line rest whole (inr last) =
    (text, sym (ap (λ l. text ++ l) last.1 ∙ append-nil text))

pub unread_next : (text left line rest : List ℕ) (number ahead : ℕ) → IsUnread text left number ahead → 1 < ahead
    → lines_of left ≡ line ∷ lines_of rest → BeginsWithLine left line rest → IsUnread text rest number (ahead - 1)
unread_next text left line rest number ahead u more lines begins =
    let part = split_line text u.above left line rest u.whole begins in
    let next = dropped_more (number - ahead) (lines_of text) line (lines_of rest) (sym lines ∙ u.lines) in
    let e : suc (number - ahead) ≡ number - (ahead - 1) = omega (arith, more, u.within) in
    record {
      above = part.0;
      whole = part.1;
      lines = subst (λ k. lines_of rest ≡ drop k (lines_of text)) e next;
      within = omega (arith, u.within);
      counted = omega (arith, more);
    }

-- the end of the text
pub ended_from : (text left : List ℕ) (number ahead : ℕ) → IsUnread text left number ahead → lines_of left ≡ []
    → lines_of (drop (length text) text) ≡ drop (number - 1) (lines_of text)
unfolding lines_of
ended_from text left number ahead u none =
    let k : number - 1 ≡ number - ahead + (ahead - 1) = omega (arith, u.within, u.counted) in
    let end : drop (length text) text ≡ [] = drop_all (length text) text (omega arith) in
    let rest : drop (number - 1) (lines_of text) ≡ [] =
    ap (λ i. drop i (lines_of text)) k ∙ (sym (drop-drop (ahead - 1) (number - ahead) (lines_of text)) ∙ (ap (drop (ahead - 1)) (sym u.lines ∙ none) ∙ drop-nil (ahead - 1))) in
    rw (end, rest) refl

-- the lines below a line
pub below_line : (text : List ℕ) (number start : ℕ) (line : List ℕ) → lines_of (drop start text) ≡ drop (number - 1) (lines_of text)
    → Some line ≡ line_at number (lines_of text) → lines_of (drop (start + length line + 1) text) ≡ drop number (lines_of text)
below_line text zero start line from is = absurd (cc is)
below_line text (suc n) start line from is =
    let one : suc n - 1 ≡ n = omega arith in
    let first = from_element (lines_of text) n line (sym is) in
    let e : start + length line + 1 ≡ start + (length line + 1) = omega arith in
    let after = after_line (drop start text) line (drop (suc n) (lines_of text)) (from ∙ (ap (λ k. drop k (lines_of text)) one ∙ first)) in
    rw (e, ← drop-drop (length line + 1) start text) after

-- and those below the start or the end of the text
pub below_end : (text : List ℕ) (number start : ℕ) → lines_of (drop start text) ≡ drop (number - 1) (lines_of text)
    → None ≡ line_at number (lines_of text) → lines_of (drop start text) ≡ drop number (lines_of text)
below_end text zero start from is = from
below_end text (suc n) start from is =
    let one : suc n - 1 ≡ n = omega arith in
    let past = past_elements (lines_of text) n (sym is) in
    from ∙ (ap (λ k. drop k (lines_of text)) one ∙ (drop_all n (lines_of text) past ∙ sym (drop_all (suc n) (lines_of text) (omega (arith, past)))))

-- the number of a line decreases by one if a line above it is removed
pub line_below : (ahead : ℕ) (line : List ℕ) (more : List (List ℕ)) → 1 < ahead → line_at ahead (line ∷ more) ≡ line_at (ahead - 1) more
line_below zero line more two = absurd (omega (arith, two))
line_below (suc zero) line more two = absurd (omega (arith, two))
line_below (suc (suc n)) line more two = let e : suc (suc n) - 1 ≡ suc n = omega arith in rw e refl

-- an empty text has no line
pub line_of_none : (n : ℕ) → line_at n [] ≡ None
line_of_none zero = refl
line_of_none (suc n) = refl

-- the bytes after a place and its line, even if their sum is cut
pub behind_cut : (text : List ℕ) (start size : ℕ) → length text < 2 ^ 64
    → drop (min (min (start + size) 18446744073709551615 + 1) 18446744073709551615) text ≡ drop (start + size + 1) text
behind_cut text start size fits =
    elim (cases_lt (start + size) 18446744073709551615) [
      | inl inside ↦ let e : min (min (start + size) 18446744073709551615 + 1) 18446744073709551615 ≡ start + size + 1 = omega (arith, inside) in ap (λ k. drop k text) e
      | inr past ↦
          drop_all (min (min (start + size) 18446744073709551615 + 1) 18446744073709551615) text (omega (arith, past, fits))
          ∙ sym (drop_all (start + size + 1) text (omega (arith, past, fits)))
    ]
