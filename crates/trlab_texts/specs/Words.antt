-- The words of a line: the lines that begin with them, and the numbers that they write.
use Rattle.std.specs.Prelude.{ℕ, ◌==◌, ◌&&◌, not, Bool, false, List, [], ◌∷◌, length, decimal, nat_le, nat_lt}
use Rattle.std.specs.Prelude.{Option, None, Some, Result, Ok, Err, if◌then◌else◌, bytes_eq, ◌++◌, codes}
use Rattle.std.specs.{Prelude.slice_index_or, Str.Parse.digits_value, List.list_any}
use Rattle.trlab_lines.specs.Lines.{without_prefix, cut, front_or_all}
use Rattle.trlab_texts.specs.declared.fault.Cause.{Cause, TheVariants.{Line, Number}}
use Rattle.trlab_texts.specs.declared.line_name.LineName.{LineName, TheVariants.{Road, Sweep, Key, Limit}}
use Rattle.trlab_texts.specs.declared.line_name.LineName.TheVariants.{Length, Lanes, Lane, Rule, Motion}
use Rattle.trlab_texts.specs.declared.line_name.LineName.TheVariants.{Change, Steps, At, Warm, Measure, Cars}
use Rattle.trlab_texts.specs.declared.line_name.{LineName.TheVariants.End, LineNames.LineNames}

-- The words of a line, and the numbers that they write.

-- whether a text contains a space, which has the code 32
abbrev pub has_space : List ℕ → Bool
has_space text = list_any (λ c. c == 32) text

-- whether a text is one word: not empty, and without spaces
abbrev pub is_word : List ℕ → Bool
is_word text = nat_lt 0 (length text) && not (has_space text)

-- the text after a line's name, if it is one word; the cause `Line` if it is not, or if the line has another
-- name (`None`)
abbrev pub one_word : Option (List ℕ) → Result (List ℕ) Cause
one_word None = Err Line
one_word (Some word) = if is_word word then Ok word else Err Line

-- the text after `name` in the line `text`, if it is one word; the cause `Line` for any other line. For
-- example, the word after `limit ` in `limit 5` is `5`
abbrev pub word_after : List ℕ → List ℕ → Result (List ℕ) Cause
word_after name text = one_word (without_prefix name text)

-- the number that a word writes in decimal digits: 20 for `20`, and none for `020`, `+20` or `2x`
abbrev pub number_of : List ℕ → Option ℕ
number_of word =
    if bytes_eq (decimal (digits_value 10 word)) word then Some (digits_value 10 word) else None

-- the number, if it is from `low` to `high`; the cause `Number` if it is not, or if there is no number
abbrev pub within : ℕ → ℕ → Option ℕ → Result ℕ Cause
within low high None = Err Number
within low high (Some n) = if nat_le low n && nat_le n high then Ok n else Err Number

-- the number from `low` to `high` that a word states; the cause `Number` for any other word, and the cause
-- that is given instead of a word if there is none
abbrev pub number_within : ℕ → ℕ → Result (List ℕ) Cause → Result ℕ Cause
number_within low high (Err cause) = Err cause
number_within low high (Ok word) = within low high (number_of word)

-- the first word of a line: the bytes before its first space, or all of them if it has no space
abbrev pub head_word : List ℕ → List ℕ
head_word text = front_or_all text (cut 32 text)

-- whether the next line begins with this word; false if no line is left
abbrev pub next_word_is : List ℕ → List (List ℕ) → Bool
next_word_is word [] = false
next_word_is word (text ∷ left) = bytes_eq (head_word text) word

-- the text, if it is one word; otherwise none
abbrev pub as_word : List ℕ → Option (List ℕ)
as_word text = if is_word text then Some text else None

-- the two parts of a text, if each of them is one word; otherwise none
abbrev pub both_words : Option (List ℕ × List ℕ) → Option (List ℕ × List ℕ)
both_words None = None
both_words (Some parts) = if is_word parts.0 && is_word parts.1 then Some parts else None

-- the two words of a text with one space between them: `3` and `12` for `3 12`; none for any other text
abbrev pub two_words : List ℕ → Option (List ℕ × List ℕ)
two_words text = both_words (cut 32 text)

-- The lines of job and sweep files by their first word.

-- the first word of a line of this name
abbrev pub name_word : LineName → List ℕ
name_word Road = codes "road"
name_word Sweep = codes "sweep"
name_word Key = codes "key"
name_word Limit = codes "limit"
name_word Length = codes "length"
name_word Lanes = codes "lanes"
name_word Lane = codes "lane"
name_word Rule = codes "rule"
name_word Motion = codes "motion"
name_word Change = codes "change"
name_word Steps = codes "steps"
name_word At = codes "at"
name_word Warm = codes "warm"
name_word Measure = codes "measure"
name_word Cars = codes "cars"
name_word End = codes "end"

-- the number of a name, from 0 on, in the order of `LineName`
abbrev pub name_number : LineName → ℕ
name_number Road = 0
name_number Sweep = 1
name_number Key = 2
name_number Limit = 3
name_number Length = 4
name_number Lanes = 5
name_number Lane = 6
name_number Rule = 7
name_number Motion = 8
name_number Change = 9
name_number Steps = 10
name_number At = 11
name_number Warm = 12
name_number Measure = 13
name_number Cars = 14
name_number End = 15

-- is the name in a set of names?
abbrev pub has_name : LineNames → LineName → Bool
has_name names name = slice_index_or names.present (name_number name) false

-- the first word of a line of this name, and the space after it
abbrev pub name_and_space : LineName → List ℕ
name_and_space name = name_word name ++ codes " "
