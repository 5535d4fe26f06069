-- Laws of words and numbers.
use Rattle.std.specs.Prelude.{◌≡◌, ℕ, ◌<◌, ◌≤◌, ◌^◌, ◌↔◌, List, ◌++◌, Ok, decimal}
use Rattle.trlab_texts.specs.Words.{number_within, word_after}

-- for `high` below 2^32: the number that is read after `name` in the line `text` is n exactly if the line is
-- the name followed by the decimal digits of n, and n is from `low` to `high`. For example, with the name
-- `steps ` and the range 0 to 99, `steps 20` has the number 20, and `steps 020` has none
abbrev pub NumbersAreAsWritten : Type 0
NumbersAreAsWritten = (name text : List ℕ) (low high n : ℕ) → high < 2 ^ 32
    → (number_within low high (word_after name text) ≡ Ok n)
    ↔ ((text ≡ name ++ decimal n) × (low ≤ n) × (n ≤ high))
