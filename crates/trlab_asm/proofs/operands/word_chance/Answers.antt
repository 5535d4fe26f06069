use Rattle.std.proofs.Common.{◌≡◌, ℕ, ◌-◌, ◌<◌, ◌≤◌, List, refl, arith, Result, Ok, Err, IfOk}
use Rattle.trlab_bounds.specs.declared.programs.TheConstants.{WORDS, CERTAIN}
use Rattle.trlab_asm.specs.{Operands.{◌>>=◌, two_numerals, value_within, word_chance}, declared.fault.Why.Why}
use Rattle.trlab_asm.proofs.Shapes.{first_known, rest_known}
use Rattle.trlab_asm.proofs.operands.word_chance.Goals as goal

-- both numbers, from their digits
numbers : (text word chance : List ℕ) (a b : Result ℕ Why) (r : Result (ℕ × ℕ) Why) → Ok (word, chance) ≡ two_numerals text
    → a ≡ value_within 0 (WORDS - 1) word → b ≡ value_within 0 CERTAIN chance → r ≡ (a >>= λ p. b >>= λ q. Ok (p, q)) → r ≡ word_chance text
numbers text word chance a b r digits k t e = rw (e, k, t, ← digits) refl

below : (r : Result ℕ Why) → IfOk r (λ n. n ≤ 15) → IfOk r (λ n. n < WORDS)
below (Ok n) known = omega arith
below (Err e) known = tt

pub returns-clause-value : goal.returns-clause-value
returns-clause-value c =
    numbers c.args.text.now c.in_ok-word.word.now c.in_ok-word.chance.now c.value_within.result c.value_within-2.result c.both.result
    c.in_ok-word.ensures.value c.value_within.ensures.value c.value_within-2.ensures.value c.both.ensures

pub returns-clause-word : goal.returns-clause-word
returns-clause-word c =
    first_known (λ n. n < WORDS) c.value_within.result c.value_within-2.result c.both.result c.both.ensures (below c.value_within.result c.value_within.ensures.high)

pub returns-clause-chance : goal.returns-clause-chance
returns-clause-chance c = rest_known (λ n. n ≤ CERTAIN) c.value_within.result c.value_within-2.result c.both.result c.both.ensures c.value_within-2.ensures.high
