-- Numbers of lines are in their ranges.
use Rattle.std.proofs.Common.{ℕ, ◌≤◌, List, Result, Ok, Err, IfOk}
use Rattle.trlab_texts.specs.{declared.fault.Cause.Cause, Words.{number_within, word_after}}
use Rattle.trlab_texts.proofs.Fine.{Fine, InRange, numbered}

above : (low high : ℕ) (r : Result ℕ Cause) → Fine (InRange low high) r → IfOk r (λ n. low ≤ n)
above low high (Ok n) is = is.low
above low high (Err cause) is = tt

below : (low high : ℕ) (r : Result ℕ Cause) → Fine (InRange low high) r → IfOk r (λ n. n ≤ high)
below low high (Ok n) is = is.high
below low high (Err cause) is = tt

pub number_low : (name text : List ℕ) (low high : ℕ) → IfOk (number_within low high (word_after name text)) (λ n. low ≤ n)
number_low name text low high = above low high (number_within low high (word_after name text)) (numbered name text low high)

pub number_high : (name text : List ℕ) (low high : ℕ) → IfOk (number_within low high (word_after name text)) (λ n. n ≤ high)
number_high name text low high = below low high (number_within low high (word_after name text)) (numbered name text low high)
