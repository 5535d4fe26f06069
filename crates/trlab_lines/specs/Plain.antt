-- Plain text: lines of printable ASCII characters, in which other bytes are escaped.
use Rattle.std.specs.Prelude.{◌≡◌, ◌⊎◌, ℕ, ◌+◌, ◌/◌, ◌%◌, ◌==◌, ◌&&◌, ◌≤◌, not, Bool, List, [], ◌∷◌, ◌++◌}
use Rattle.std.specs.Prelude.{codes, flat_map, length, take, nat_le, nat_lt, if◌then◌else◌}
use Rattle.trlab_lines.specs.declared.page.TheConstants.{MAX_QUOTED}

-- a printable ASCII character, from the space to the tilde
abbrev pub IsPrintable : ℕ → Type 0
IsPrintable c = (32 ≤ c) × (c ≤ 126)

-- a byte of plain text: a printable ASCII character, or the LF that ends a line
abbrev pub IsPlain : ℕ → Type 0
IsPlain c = (c ≡ 10) ⊎ IsPrintable c

-- is byte c shown as it is? true for printable ASCII characters except the backslash, with which an escape
-- begins
abbrev pub shows_itself : ℕ → Bool
shows_itself c = nat_le 32 c && nat_le c 126 && not (c == 92)

-- the hexadecimal digit of n, 0 to 15: `0` to `9`, or `a` to `f`
abbrev pub hex_digit : ℕ → ℕ
hex_digit n = if nat_lt n 10 then 48 + n else 87 + n

-- byte c as it is shown: c itself, or `\x` and two hexadecimal digits; for example, `\x09` for a tab
abbrev pub shown : ℕ → List ℕ
shown c = if shows_itself c then c ∷ [] else 92 ∷ 120 ∷ hex_digit (c / 16) ∷ hex_digit (c % 16) ∷ []

-- the bytes of a list as they are shown, joined
abbrev pub all_shown : List ℕ → List ℕ
all_shown bytes = flat_map shown bytes

-- the mark ` ..` if a line has more bytes than are shown, otherwise nothing
abbrev pub ellipsis : Bool → List ℕ
ellipsis more = if more then codes " .." else []

-- a line as it is quoted in a message: its first MAX_QUOTED bytes as they are shown, and the mark ` ..` if it
-- has more
abbrev pub quoted : List ℕ → List ℕ
quoted line = all_shown (take MAX_QUOTED line) ++ ellipsis (nat_lt MAX_QUOTED (length line))
