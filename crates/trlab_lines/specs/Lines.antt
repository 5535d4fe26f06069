-- The lines of a text: their places, how a line is cut, the numbers in it, and its oddities.
use Rattle.std.specs.Prelude.{◌≡◌, ◌≢◌, ℕ, zero, suc, ◌==◌, ◌⊎◌, List, [], ◌∷◌, ◌++◌, All, Option, None}
use Rattle.std.specs.Prelude.{slice_get, if◌then◌else◌, ◌-◌, ◌≤◌, drop, length, option_map, ◌+◌, ◌||◌, not}
use Rattle.std.specs.Prelude.{Bool, take, bytes_eq, Some, position, ◌&&◌, nat_lt, ◌<◌, IsTrue, is_some}
use Rattle.std.specs.{List.{onto_first, list_all, list_any}, Char.is_ascii_digit}
use Rattle.trlab_lines.specs.declared.{place.Place.Place, oddity.Oddity.Oddity}
use Rattle.trlab_lines.specs.declared.oddity.Oddity.TheVariants.{ByteOrderMark, CarriageReturn, Empty, Tab}
use Rattle.trlab_lines.specs.declared.oddity.Oddity.TheVariants.{FirstSpace, FinalSpace, Comment}

-- The lines of a text.

-- the lines of a text, each without the LF that ends it; the last line may have no LF. For example, `a` LF
-- `b` and `a` LF `b` LF both have the lines `a` and `b`, and the empty text has no lines
unfoldable pub lines_of : List ℕ → List (List ℕ)
lines_of [] = []
lines_of (c ∷ text) = if c == 10 then [] ∷ lines_of text else onto_first c (lines_of text)

-- a text begins with this line: it is the line, an LF and the rest; or it is only the line, without an LF,
-- and the rest is empty
abbrev pub BeginsWithLine : List ℕ → List ℕ → List ℕ → Type 0
BeginsWithLine text line rest = (text ≡ line ++ (10 ∷ rest)) ⊎ ((text ≡ line) × (rest ≡ []))

-- no byte of a line is an LF
abbrev pub HasNoLineFeed : List ℕ → Type 0
HasNoLineFeed line = All (λ byte. byte ≢ 10) line

-- line n of a list of lines, counted from 1; `None` if there is no line n, as for n = 0
abbrev pub line_at : ℕ → List (List ℕ) → Option (List ℕ)
line_at zero lines = None
line_at (suc n) lines = slice_get lines n

-- Places in a text: its lines, its start and its end.

-- the place of the line `number` of a text, counted from 1: the line begins after the first `start` bytes.
-- For `number` 0 it is the start of the text, and past the last line its end; neither has a line
pub record IsPlaceOf (text : List ℕ) (number : ℕ) (place : Place) : Type 0 where
  pub same_text : place.text.now ≡ text
  pub same_number : place.number ≡ number
  pub line : option_map (λ line. line.now) place.line ≡ line_at number (lines_of text)
  pub within : place.start ≤ length text
  pub lines_from : lines_of (drop place.start text) ≡ drop (number - 1) (lines_of text)

-- How a line is cut: at its first `;`, `:` or comma, or at blanks, which are spaces and tabs.

-- the bytes of a text before index i, and those after it; `None` if there is no index
abbrev pub split_around : List ℕ → Option ℕ → Option (List ℕ × List ℕ)
split_around text None = None
split_around text (Some i) = Some (take i text, drop (i + 1) text)

-- the bytes of a text before its first byte c, and those after it; `None` if it has no byte c (Rust's
-- `split_once`). For example, at commas `a,b,c` is cut into `a` and `b,c`
abbrev pub cut : ℕ → List ℕ → Option (List ℕ × List ℕ)
cut c text = split_around text (position (λ b. b == c) text)

-- a text without the prefix with which it begins; `None` if it does not begin with the prefix (Rust's
-- `strip_prefix`)
abbrev pub without_prefix : List ℕ → List ℕ → Option (List ℕ)
without_prefix prefix text =
    if bytes_eq (take (length prefix) text) prefix then Some (drop (length prefix) text) else None

-- is this byte a space (32) or a tab (9)?
abbrev pub is_blank : ℕ → Bool
is_blank b = b == 32 || b == 9

-- the bytes of a text from index i on; none if there is no index
abbrev pub from_position : List ℕ → Option ℕ → List ℕ
from_position text None = []
from_position text (Some i) = drop i text

-- a text without its leading spaces and tabs; empty if it has no other bytes
abbrev pub without_indent : List ℕ → List ℕ
without_indent text = from_position text (position (λ b. not (is_blank b)) text)

-- a text split before index i; if there is no index, the first part is the whole text
abbrev pub split_text : List ℕ → Option ℕ → List ℕ × List ℕ
split_text text None = (text, [])
split_text text (Some i) = (take i text, drop i text)

-- a text split before its first space or tab; if it has none, the first part is the whole text
abbrev pub up_to_blank : List ℕ → List ℕ × List ℕ
up_to_blank text = split_text text (position (λ b. is_blank b) text)

-- the first word of a text, and the bytes after it; for example, ` go r0` gives `go` and ` r0`. The word is
-- empty if the text is blank
abbrev pub first_word : List ℕ → List ℕ × List ℕ
first_word text = up_to_blank (without_indent text)

-- the first of two parts of a text if the second is blank, otherwise `None`
abbrev pub lone_word : List ℕ × List ℕ → Option (List ℕ)
lone_word parts = if length (without_indent parts.1) == 0 then Some parts.0 else None

-- the only word of a text; the empty word if the text is blank, and `None` if it has two words or more
abbrev pub only_word : List ℕ → Option (List ℕ)
only_word text = lone_word (first_word text)

-- the bytes of a line before a cut; the whole line if there is no cut
abbrev pub front_or_all : List ℕ → Option (List ℕ × List ℕ) → List ℕ
front_or_all line None = line
front_or_all line (Some parts) = parts.0

-- a line without its comment, which begins at the first `;` (59); the whole line if it has no `;`
abbrev pub without_comment : List ℕ → List ℕ
without_comment line = front_or_all line (cut 59 line)

-- the two parts of a cut text, of which the first is a label; no label and the whole text if there is no cut
abbrev pub split_label : List ℕ → Option (List ℕ × List ℕ) → Option (List ℕ) × List ℕ
split_label text None = (None, text)
split_label text (Some parts) = (Some parts.0, parts.1)

-- the label of a line, which is all bytes before its first `:` (58), and the bytes after the `:`; no label
-- and the whole line if it has no `:`. For example, `a: go r0` gives `a` and ` go r0`
abbrev pub label_and_rest : List ℕ → Option (List ℕ) × List ℕ
label_and_rest line = split_label line (cut 58 line)

-- the name of a line's instruction, which is the first word after the label, and the bytes from there to the
-- comment; for example, `a: go r0 ; fast` gives `go` and ` r0 `
abbrev pub name_and_operands : List ℕ → List ℕ × List ℕ
name_and_operands line = first_word (label_and_rest (without_comment line)).1

-- Words that consist of decimal digits. Their value is std's `digits_value 10`.

-- are all bytes of the text decimal digits? true for the empty text
abbrev pub all_digits : List ℕ → Bool
all_digits text = list_all (λ c. is_ascii_digit c) text

-- is the text a number in decimal digits: one digit or more, and nothing else? Leading zeros are allowed
abbrev pub is_numeral : List ℕ → Bool
is_numeral text = nat_lt 0 (length text) && all_digits text

-- The oddities of a line: characters that lines outside programs may not have, or no characters at all.

-- the line contains this byte
abbrev pub Contains : List ℕ → ℕ → Type 0
Contains line byte = IsTrue (list_any (λ c. c == byte) line)

-- the line has this oddity: it begins with a byte order mark (239, 187, 191), contains a carriage return
-- (13), has no bytes, contains a tab (9), begins or ends with a space (32), or contains a `;` (59) or a `#`
-- (35)
abbrev pub HasOddity : List ℕ → Oddity → Type 0
HasOddity line ByteOrderMark = IsTrue (is_some (without_prefix (239 ∷ 187 ∷ 191 ∷ []) line))
HasOddity line CarriageReturn = Contains line 13
HasOddity line Empty = line ≡ []
HasOddity line Tab = Contains line 9
HasOddity line FirstSpace = slice_get line 0 ≡ Some 32
HasOddity line FinalSpace = slice_get line (length line - 1) ≡ Some 32
HasOddity line Comment = Contains line 59 ⊎ Contains line 35

-- the rank of an oddity: if a line has several, the one of the smallest rank is reported
abbrev pub oddity_rank : Oddity → ℕ
oddity_rank ByteOrderMark = 0
oddity_rank CarriageReturn = 1
oddity_rank Empty = 2
oddity_rank Tab = 3
oddity_rank FirstSpace = 4
oddity_rank FinalSpace = 5
oddity_rank Comment = 6

-- the first oddity of a line: the line has it, and no oddity of a smaller rank
abbrev pub IsFirstOddity : List ℕ → Oddity → Type 0
IsFirstOddity line oddity =
    HasOddity line oddity × ((other : Oddity) → oddity_rank other < oddity_rank oddity → ¬ (HasOddity line other))
