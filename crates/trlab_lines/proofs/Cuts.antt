-- Cutting a text after its first line.
use Rattle.std.proofs.Common.{◌≡◌, ◌==◌, ℕ, suc, ◌+◌, ◌<◌, ◌≤◌, List, [], ◌∷◌, ◌++◌, length, take, drop}
use Rattle.std.proofs.Common.{get_or, refl, sym, ◌∙◌, ap, subst, arith, Bool, true, false, cond, add-one}
use Rattle.std.proofs.Common.{nat_lt, drop-cons, Option, None, Some, unwrap_or, position, ltb-false, eqb-true}
use Rattle.std.proofs.Common.{eq-eqb, ne_eqb, take-append-drop, get_or-take, length-take-le}
use Rattle.std.proofs.lemmas.List.{Quantifiers.position-Some, Sums.fails_before_first}
use Rattle.std.specs.List.{position_or_len}
use Rattle.trlab_lines.specs.Lines.{split_around, cut, lines_of, HasNoLineFeed}

rest_has_no_end : (c : ℕ) (line : List ℕ) → HasNoLineFeed (c ∷ line) → HasNoLineFeed line
rest_has_no_end c line none = λ k d inside. none (suc k) d (omega arith)

first_is_no_end : (c : ℕ) (line : List ℕ) → HasNoLineFeed (c ∷ line) → (c == 10) ≡ false
first_is_no_end c line none = ne_eqb c 10 (none 0 0 (omega arith))

-- the bytes before an LF are a line, and the rest has the other lines
pub line_and_rest : (line rest : List ℕ) → HasNoLineFeed line → lines_of (line ++ (10 ∷ rest)) ≡ line ∷ lines_of rest
unfolding lines_of
line_and_rest [] rest none = refl
line_and_rest (c ∷ line) rest none = rw (first_is_no_end c line none, line_and_rest line rest (rest_has_no_end c line none)) refl

-- a text without an LF is one line
pub last_line : (c : ℕ) (line : List ℕ) → HasNoLineFeed (c ∷ line) → lines_of (c ∷ line) ≡ (c ∷ line) ∷ []
unfolding lines_of
last_line c [] none = rw (first_is_no_end c [] none) refl
last_line c (d ∷ line) none = rw (first_is_no_end c (d ∷ line) none, last_line d line (rest_has_no_end c (d ∷ line) none)) refl

-- a text without bytes has no line
pub no_line : lines_of [] ≡ []
unfolding lines_of
no_line = refl

-- a text of length 0 has no line
pub no_line_in : (text : List ℕ) → length text ≡ 0 → lines_of text ≡ []
unfolding lines_of
no_line_in [] empty = refl
no_line_in (c ∷ text) empty = absurd (omega arith)

-- nor does it have a byte
pub no_byte_in : (text : List ℕ) → length text ≡ 0 → text ≡ []
no_byte_in [] empty = refl
no_byte_in (c ∷ text) empty = absurd (omega arith)

differs : (c : ℕ) → (c == 10) ≡ false → c ≡ 10 → ⊥
differs c other same = let both : true ≡ false = sym (eq-eqb c 10 same) ∙ other in cc

past_the_end : (p n : ℕ) (b : Bool) → nat_lt p n ≡ b → cond b (Some p) None ≡ None → n ≤ p
past_the_end p n true e none = cc
past_the_end p n false e none = ltb-false p n e

-- no LF is found
pub nowhere : (text : List ℕ) → position (λ byte. byte == 10) text ≡ None → HasNoLineFeed text
nowhere text none =
    let beyond : length text ≤ position_or_len (λ byte. byte == 10) text = past_the_end (position_or_len (λ byte. byte == 10) text) (length text) (nat_lt (position_or_len (λ byte. byte == 10) text) (length text)) refl none in
    λ k d inside. differs (get_or text k d) (fails_before_first (λ byte. byte == 10) text k d (omega arith))

-- an LF is found, and there is none before it
none_before : (text : List ℕ) (end : ℕ) → position (λ byte. byte == 10) text ≡ Some end → HasNoLineFeed (take end text)
none_before text end found =
    let at = position-Some (λ byte. byte == 10) text end 0 found in
    λ k d inside.
    let below : k < end = omega (arith, length-take-le end text (omega (arith, at.0))) in
    let others = position-Some (λ byte. byte == 10) text end d found in
    rw (get_or-take end text k d below) (differs (get_or text k d) (others.2 k below))

-- the text consists of the bytes before the LF, the LF, and the bytes after it
end_between : (text : List ℕ) (end : ℕ) → position (λ byte. byte == 10) text ≡ Some end → text ≡ take end text ++ (10 ∷ drop (end + 1) text)
end_between text end found =
    let at = position-Some (λ byte. byte == 10) text end 0 found in
    let is : get_or text end 0 ≡ 10 = eqb-true (get_or text end 0) 10 at.1 in
    let inside = at.0 in
    sym (take-append-drop end text) ∙ rw (drop-cons text end 0, is, add-one) refl

-- so the lines are the one before it, and those after it
line_before : (text : List ℕ) (end : ℕ) → position (λ byte. byte == 10) text ≡ Some end → lines_of text ≡ take end text ∷ lines_of (drop (end + 1) text)
line_before text end found = ap lines_of (end_between text end found) ∙ line_and_rest (take end text) (drop (end + 1) text) (none_before text end found)

-- if no LF is found, the text is one line
pub only_line : (text : List ℕ) → 0 < length text → position (λ byte. byte == 10) text ≡ None → lines_of text ≡ text ∷ []
only_line [] some none = absurd (omega arith)
only_line (c ∷ text) some none = last_line c text (nowhere (c ∷ text) none)

-- a cut at an LF: its index, and the bytes on both sides
record IsEnd (text line rest : List ℕ) : Type 0 where
  end : ℕ
  found : position (λ byte. byte == 10) text ≡ Some end
  before : line ≡ take end text
  behind : rest ≡ drop (end + 1) text

end_around : (text line rest : List ℕ) (place : Option ℕ) → position (λ byte. byte == 10) text ≡ place → Some (line, rest) ≡ split_around text place → IsEnd text line rest
end_around text line rest None at e = cc
end_around text line rest (Some end) at e = record {
  end = end;
  found = at;
  before = ap (λ (o : Option (List ℕ × List ℕ)). (unwrap_or o ([], [])).0) e;
  behind = ap (λ (o : Option (List ℕ × List ℕ)). (unwrap_or o ([], [])).1) e;
}

end_of_cut : (text line rest : List ℕ) → Some (line, rest) ≡ cut 10 text → IsEnd text line rest
end_of_cut text line rest e = end_around text line rest (position (λ byte. byte == 10) text) refl e

-- so the lines are the one before it, and those after it
pub lines_of_cut : (text line rest : List ℕ) → Some (line, rest) ≡ cut 10 text → lines_of text ≡ line ∷ lines_of rest
lines_of_cut text line rest e =
    let at = end_of_cut text line rest e in
    line_before text at.end at.found ∙ (ap (λ l. l ∷ lines_of (drop (at.end + 1) text)) (sym at.before) ∙ ap (λ r. line ∷ lines_of r) (sym at.behind))

-- and so are the bytes
pub bytes_of_cut : (text line rest : List ℕ) → Some (line, rest) ≡ cut 10 text → text ≡ line ++ (10 ∷ rest)
bytes_of_cut text line rest e =
    let at = end_of_cut text line rest e in
    end_between text at.end at.found ∙ (ap (λ l. l ++ (10 ∷ drop (at.end + 1) text)) (sym at.before) ∙ ap (λ r. line ++ (10 ∷ r)) (sym at.behind))

-- and the line contains no LF
pub no_end_of_cut : (text line rest : List ℕ) → Some (line, rest) ≡ cut 10 text → HasNoLineFeed line
no_end_of_cut text line rest e =
    let at = end_of_cut text line rest e in
    subst HasNoLineFeed (sym at.before) (none_before text at.end at.found)

none_around : (text : List ℕ) (place : Option ℕ) → None ≡ split_around text place → place ≡ None
none_around text None e = refl
none_around text (Some end) e = cc

-- the text has no LF to cut at
pub no_cut : (text : List ℕ) → None ≡ cut 10 text → position (λ byte. byte == 10) text ≡ None
no_cut text e = none_around text (position (λ byte. byte == 10) text) e
