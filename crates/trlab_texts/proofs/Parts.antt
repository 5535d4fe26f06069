-- The lines of a part are those before the first line `end`.
use Rattle.std.proofs.Common.{◌≡◌, ℕ, ◌+◌, ◌-◌, ◌<◌, List, [], ◌∷◌, ◌++◌, length, take, refl, sym, ◌∙◌, ap}
use Rattle.std.proofs.Common.{subst, arith, append_assoc, append-nil, length-append, inl, inr, true, false}
use Rattle.std.proofs.{Common.{Option, None, Some, codes, bytes_eq}, Math.Seq.take-append_seam}
use Rattle.trlab_lines.specs.Lines.{lines_of, BeginsWithLine, HasNoLineFeed}
use Rattle.trlab_lines.proofs.Cuts.{line_and_rest, no_line, no_byte_in}
use Rattle.trlab_texts.specs.declared.fault.{Cause.TheVariants.Line, TextFault.TheVariants.At}
use Rattle.trlab_texts.{specs.Programs.{split_at_end, with_first_line}, proofs.Cuts.no_text_in}

-- a prefix of a text that ends at the end of a line
abbrev pub IsClosed : List ℕ → Type 0
IsClosed front = (more : List ℕ) → lines_of (front ++ more) ≡ lines_of front ++ lines_of more

-- lines before those of a part
abbrev pub onto : List (List ℕ) → Option (List (List ℕ) × List (List ℕ)) → Option (List (List ℕ) × List (List ℕ))
onto lines None = None
onto lines (Some found) = Some (lines ++ found.0, found.1)

-- lines of which none is `end`
abbrev pub IsFree : List (List ℕ) → Type 0
IsFree lines = (more : List (List ℕ)) → split_at_end (lines ++ more) ≡ onto lines (split_at_end more)

-- a number of lines of a text were read, none of which is `end`, and the rest is left
pub record Searched (text left : List ℕ) (count : ℕ) : Type 0 where
  pub front : List ℕ
  pub parts : text ≡ front ++ left
  pub closed : 0 < length left → IsClosed front
  pub free : IsFree (lines_of front)
  pub counted : length (lines_of front) ≡ count

closed_lines : (front line : List ℕ) → IsClosed front → HasNoLineFeed line → lines_of (front ++ (line ++ (10 ∷ []))) ≡ lines_of front ++ (line ∷ [])
unfolding lines_of
closed_lines front line closed plain = closed (line ++ (10 ∷ [])) ∙ ap (λ t. lines_of front ++ t) (line_and_rest line [] plain)

closed_more : (front line : List ℕ) → IsClosed front → HasNoLineFeed line → IsClosed (front ++ (line ++ (10 ∷ [])))
closed_more front line closed plain more =
    let there : (front ++ (line ++ (10 ∷ []))) ++ more ≡ front ++ (line ++ (10 ∷ more)) =
    append_assoc front (line ++ (10 ∷ [])) more ∙ ap (λ t. front ++ t) (append_assoc line (10 ∷ []) more) in
    ap lines_of there ∙ closed (line ++ (10 ∷ more)) ∙ ap (λ t. lines_of front ++ t) (line_and_rest line more plain)
    ∙ sym (append_assoc (lines_of front) (line ∷ []) (lines_of more))
    ∙ ap (λ t. t ++ lines_of more) (sym (closed_lines front line closed plain))

free_step : (lines : List (List ℕ)) (line : List ℕ) (found : Option (List (List ℕ) × List (List ℕ))) → onto lines (with_first_line line found) ≡ onto (lines ++ (line ∷ [])) found
free_step lines line None = refl
free_step lines line (Some found) = ap (λ t. Some (t, found.1)) (sym (append_assoc lines (line ∷ []) found.0))

part_step : (line : List ℕ) (more : List (List ℕ)) → bytes_eq line (codes "end") ≡ false → split_at_end (line ∷ more) ≡ with_first_line line (split_at_end more)
unfolding split_at_end
part_step line more other = rw other refl

part_here : (line : List ℕ) (more : List (List ℕ)) → bytes_eq line (codes "end") ≡ true → split_at_end (line ∷ more) ≡ Some ([], more)
unfolding split_at_end
part_here line more is = rw is refl

free_more : (lines : List (List ℕ)) (line : List ℕ) → IsFree lines → bytes_eq line (codes "end") ≡ false → IsFree (lines ++ (line ∷ []))
free_more lines line free other more =
    ap split_at_end (append_assoc lines (line ∷ []) more) ∙ free (line ∷ more) ∙ ap (onto lines) (part_step line more other) ∙ free_step lines line (split_at_end more)

counted_more : (lines : List (List ℕ)) (line : List ℕ) (count : ℕ) → length lines ≡ count → length (lines ++ (line ∷ [])) ≡ count + 1
counted_more lines line count counted = omega (arith, counted, length-append lines (line ∷ []))

-- before the first line
pub searched_none : (text : List ℕ) → Searched text text 0
unfolding lines_of
searched_none text = record { front = []; parts = refl; closed = λ _. λ more. refl; free = λ more. free_none (split_at_end more); counted = refl }
  where
    free_none : (found : Option (List (List ℕ) × List (List ℕ))) → found ≡ onto [] found
    free_none None = refl
    free_none (Some found) = refl

-- after a line that is not `end`
pub searched_more : (text left line rest : List ℕ) (count : ℕ) → Searched text left count → lines_of left ≡ line ∷ lines_of rest
    → BeginsWithLine left line rest → HasNoLineFeed line → length rest < length left → bytes_eq line (codes "end") ≡ false
    → Searched text rest (count + 1)
searched_more text left line rest count s lines (inl begins) plain less other =
    let closed = s.closed (omega arith) in
    let behind = closed_lines s.front line closed plain in
    record {
      front = s.front ++ (line ++ (10 ∷ []));
      parts = s.parts ∙ ap (λ t. s.front ++ t) (begins ∙ sym (append_assoc line (10 ∷ []) rest)) ∙ sym (append_assoc s.front (line ++ (10 ∷ [])) rest);
      closed = λ _. closed_more s.front line closed plain;
      free = subst IsFree (sym behind) (free_more (lines_of s.front) line s.free other);
      counted = ap length behind ∙ counted_more (lines_of s.front) line count s.counted;
    }
searched_more text left line rest count s lines (inr last) plain less other =
    let closed = s.closed (omega arith) in
    let behind = closed line ∙ ap (λ t. lines_of s.front ++ t) (last_line left line rest last.0 last.1 lines) in
    record {
      front = s.front ++ line;
      parts = s.parts ∙ ap (λ t. s.front ++ t) last.0 ∙ sym (append-nil (s.front ++ line)) ∙ ap (λ t. (s.front ++ line) ++ t) (sym last.1);
      closed = λ some. absurd (none_left rest last.1 some);
      free = subst IsFree (sym behind) (free_more (lines_of s.front) line s.free other);
      counted = ap length behind ∙ counted_more (lines_of s.front) line count s.counted;
    }
  where
    last_line : (left line rest : List ℕ) → left ≡ line → rest ≡ [] → lines_of left ≡ line ∷ lines_of rest → lines_of line ≡ line ∷ []
    last_line left line rest whole none lines = ap lines_of (sym whole) ∙ lines ∙ ap (λ t. line ∷ t) (ap lines_of none ∙ no_line)

    none_left : (rest : List ℕ) → rest ≡ [] → 0 < length rest → ⊥
    none_left rest none some = omega (arith, ap length none)

-- at the line `end`
pub searched_end : (text left line rest : List ℕ) (count : ℕ) (s : Searched text left count) → lines_of left ≡ line ∷ lines_of rest
    → length rest < length left → bytes_eq line (codes "end") ≡ true → split_at_end (lines_of text) ≡ Some (lines_of s.front, lines_of rest)
searched_end text left line rest count s lines less is =
    let closed = s.closed (omega arith) in
    let whole : lines_of text ≡ lines_of s.front ++ (line ∷ lines_of rest) = ap lines_of s.parts ∙ closed left ∙ ap (λ t. lines_of s.front ++ t) lines in
    ap split_at_end whole ∙ s.free (line ∷ lines_of rest) ∙ ap (onto (lines_of s.front)) (part_here line (lines_of rest) is)
    ∙ ap (λ t. Some (t, lines_of rest)) (append-nil (lines_of s.front))

-- the text before the rest
pub searched_front : (text left : List ℕ) (count : ℕ) (s : Searched text left count) → take (length text - length left) text ≡ s.front
searched_front text left count s =
    let before : length text - length left ≡ length s.front = omega (arith, ap length s.parts, length-append s.front left) in
    ap (λ n. take n text) before ∙ ap (take (length s.front)) s.parts ∙ take-append_seam s.front left

whole_front : (text left front : List ℕ) → text ≡ front ++ left → left ≡ [] → text ≡ front
whole_front text left front parts none = parts ∙ ap (λ t. front ++ t) none ∙ append-nil front

-- if no line is left, none is `end`
pub searched_all : (text left : List ℕ) (count : ℕ) → Searched text left count → lines_of left ≡ []
    → (split_at_end (lines_of text) ≡ None) × (length (lines_of text) ≡ count)
unfolding split_at_end
searched_all text left count s none =
    let whole = whole_front text left s.front s.parts (no_byte_in left (no_text_in left none)) in (
      ap split_at_end (ap lines_of whole ∙ sym (append-nil (lines_of s.front))) ∙ s.free [],
      ap (λ t. length (lines_of t)) whole ∙ s.counted,
    )

-- the part, and the place after it
pub part_found : (text left line rest part : List ℕ) (number count : ℕ) → Searched text left count → part ≡ take (length text - length left) text
    → lines_of left ≡ line ∷ lines_of rest → length rest < length left → bytes_eq line (codes "end") ≡ true
    → (split_at_end (lines_of text) ≡ Some (lines_of part, lines_of rest)) × (number + (count + 1) ≡ number + length (lines_of part) + 1)
part_found text left line rest part number count s taken lines less is =
    let same : part ≡ s.front = taken ∙ searched_front text left count s in
    let counted : length (lines_of part) ≡ count = ap (λ t. length (lines_of t)) same ∙ s.counted in
    (searched_end text left line rest count s lines less is ∙ ap (λ t. Some (lines_of t, lines_of rest)) (sym same), omega arith)

-- no part, and the number past the last line
pub part_missing : (text left : List ℕ) (number count : ℕ) → Searched text left count → lines_of left ≡ []
    → (split_at_end (lines_of text) ≡ None) × (At (number + count) Line ≡ At (number + length (lines_of text)) Line)
part_missing text left number count s none =
    let all = searched_all text left count s none in
    (all.0, ap (λ n. At (number + n) Line) (sym all.1))
