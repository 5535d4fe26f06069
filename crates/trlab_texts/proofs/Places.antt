-- The position of some bytes within a line.
use Rattle.std.proofs.Common.{Bool, true, false, cond, ◌≡◌, ◌==◌, ℕ, ◌+◌, List, [], ◌∷◌, ◌++◌, length, take}
use Rattle.std.proofs.Common.{drop, get_or, refl, sym, ◌∙◌, ap, subst, arith, length-append, take-append-drop}
use Rattle.std.proofs.Common.{drop-cons, add-one, Option, None, Some, unwrap_or, Result, Ok, Err, nat_le}
use Rattle.std.proofs.Common.{◌&&◌, position, append_assoc, append-nil}
use Rattle.std.proofs.{lemmas.List.Quantifiers.position-Some, Math.Seq.append_snoc}
use Rattle.trlab_lines.specs.Lines.{split_around, cut, without_prefix}
use Rattle.trlab_texts.specs.{declared.fault.Cause.{Cause, TheVariants.Number}, Words.within}
use Rattle.trlab_texts.{specs.Reading.HasBytesAt, proofs.Said.behind_front}

-- a line begins at position 0 of itself
pub whole : (line : List ℕ) → HasBytesAt line 0 line
whole line = record { before = []; after = []; parts = sym (append-nil line); place = refl }

-- the first part of some bytes has their position
pub first_part : (line bytes front rest : List ℕ) (at : ℕ) → HasBytesAt line at bytes → bytes ≡ front ++ rest → HasBytesAt line at front
first_part line bytes front rest at is e = record {
  before = is.before;
  after = rest ++ is.after;
  parts = is.parts ∙ ap (λ b. is.before ++ b) (ap (λ b. b ++ is.after) e ∙ append_assoc front rest is.after);
  place = is.place;
}

-- the part after it begins as many bytes later as the first part has
pub last_part : (line bytes front rest : List ℕ) (at : ℕ) → HasBytesAt line at bytes → bytes ≡ front ++ rest → HasBytesAt line (at + length front) rest
last_part line bytes front rest at is e = record {
  before = is.before ++ front;
  after = is.after;
  parts = is.parts ∙ (ap (λ b. is.before ++ b) (ap (λ b. b ++ is.after) e ∙ append_assoc front rest is.after) ∙ sym (append_assoc is.before front (rest ++ is.after)));
  place = length-append is.before front ∙ ap (λ n. n + length front) is.place;
}

-- the bytes after a prefix
pub behind_prefix : (line bytes prefix rest : List ℕ) (at : ℕ) → HasBytesAt line at bytes → Some rest ≡ without_prefix prefix bytes → HasBytesAt line (at + length prefix) rest
behind_prefix line bytes prefix rest at is e = last_part line bytes prefix rest at is (behind_front prefix bytes rest (sym e))

cut_at : (c : ℕ) (text front rest : List ℕ) (place : Option ℕ) → position (λ b. b == c) text ≡ place → Some (front, rest) ≡ split_around text place → (x : ℕ) × (text ≡ front ++ (x ∷ rest))
cut_at c text front rest None at e = cc
cut_at c text front rest (Some i) at e =
    let found = position-Some (λ b. b == c) text i 0 at in
    let inside = found.0 in
    let before : front ≡ take i text = ap (λ (o : Option (List ℕ × List ℕ)). (unwrap_or o ([], [])).0) e in
    let behind : rest ≡ drop (i + 1) text = ap (λ (o : Option (List ℕ × List ℕ)). (unwrap_or o ([], [])).1) e in
    let parts : text ≡ take i text ++ (get_or text i 0 ∷ drop (i + 1) text) = sym (take-append-drop i text) ∙ rw (drop-cons text i 0, add-one) refl in
    (get_or text i 0, parts ∙ (ap (λ l. l ++ (get_or text i 0 ∷ drop (i + 1) text)) (sym before) ∙ ap (λ r. front ++ (get_or text i 0 ∷ r)) (sym behind)))

-- a text consists of the two parts of its cut, with a byte between them
cut_parts : (c : ℕ) (text front rest : List ℕ) → Some (front, rest) ≡ cut c text → (x : ℕ) × (text ≡ front ++ (x ∷ rest))
cut_parts c text front rest e = cut_at c text front rest (position (λ b. b == c) text) refl e

-- the bytes before a cut
pub before_cut : (line bytes front rest : List ℕ) (at c : ℕ) → HasBytesAt line at bytes → Some (front, rest) ≡ cut c bytes → HasBytesAt line at front
before_cut line bytes front rest at c is e =
    let parts = cut_parts c bytes front rest e in
    first_part line bytes front (parts.0 ∷ rest) at is parts.1

-- the bytes after it
pub after_cut : (line bytes front rest : List ℕ) (at c : ℕ) → HasBytesAt line at bytes → Some (front, rest) ≡ cut c bytes → HasBytesAt line (at + length front + 1) rest
after_cut line bytes front rest at c is e =
    let parts = cut_parts c bytes front rest e in
    let there = last_part line bytes (front ++ (parts.0 ∷ [])) rest at is (parts.1 ∙ sym (append_snoc front parts.0 rest)) in
    subst (λ n. HasBytesAt line n rest) (omega (arith, length-append front (parts.0 ∷ []))) there

within_fails : (inside : Bool) (n : ℕ) (cause : Cause) → ◌≡◌ {A = Result ℕ Cause} (Err cause) (cond inside (Ok n) (Err Number)) → ◌≡◌ {A = Result ℕ Cause} (cond inside (Ok n) (Err Number)) (Err Number)
within_fails true n cause e = absurd (cc e)
within_fails false n cause e = refl

-- the only cause for which a word is not a number in a range
pub only_number : (low high : ℕ) (found : Option ℕ) (cause : Cause) → Err cause ≡ within low high found → within low high found ≡ Err Number
only_number low high None cause e = refl
only_number low high (Some n) cause e = within_fails (nat_le low n && nat_le n high) n cause e
