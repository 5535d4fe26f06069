-- The values of lines: numbers in their ranges, valid probabilities of a program, and steps in order.
use Rattle.std.proofs.Common.{◌≡◌, ℕ, ◌<◌, ◌≤◌, Bool, true, false, List, refl, arith, leb-true, ltb-true}
use Rattle.std.proofs.Common.{◌==◌, ◌&&◌, ok_or, Result, Ok, Err, nat_le, nat_lt, codes, if◌then◌else◌}
use Rattle.std.proofs.{Common.bytes_eq, lemmas.Bool.eqb-false}
use Rattle.hex.specs.{Hex.decode_sized, declared.error.FromHexError.FromHexError}
use Rattle.trlab_bounds.specs.declared.{programs.TheConstants.CERTAIN, texts.TheConstants.LONGEST_NUMBER}
use Rattle.trlab_asm.specs.Operands.{◌>>=◌}
use Rattle.trlab_texts.specs.declared.fault.Cause.{Cause, TheVariants.{Line, Order, TooMany}}
use Rattle.trlab_texts.specs.Words.{number_of, word_after}
use Rattle.trlab_texts.proofs.Fine.{Anything, Fine, InRange, line_other, key_other, order_other}
use Rattle.trlab_texts.proofs.Fine.{too_many_other, bind_fine, choose, found_fine, word_fine, within_fine}
use Rattle.trlab_jobs.specs.declared.rule_line.RuleLine.{RuleLine, TheVariants.{Nasch, Vdr, Rickert, Own}}
use Rattle.trlab_jobs.specs.Job.{key_line, key_of, decoded_key}
use Rattle.trlab_jobs.specs.Lines.{rule_words, probability_of, rule_with_probabilities, rule_line}
use Rattle.trlab_jobs.specs.Lines.{later_words, step_of, admit_step, later_line}

-- a line of fixed words
pub fixed_fine : (words text : List ℕ) → Fine {A = Unit {0}} Anything (if bytes_eq text words then Ok tt else Err Line)
fixed_fine words text = choose Anything (bytes_eq text words) (Ok tt) (Err Line) (λ e. tt) (λ e. line_other)

hex_fine : (key : Result (List ℕ) FromHexError) → Fine Anything (decoded_key key)
hex_fine (Ok key) = tt
hex_fine (Err fault) = key_other

key_fine : (word : Result (List ℕ) Cause) → Fine Anything word → Fine Anything (key_of word)
key_fine (Ok word) fine = hex_fine (decode_sized word 32)
key_fine (Err cause) fine = fine

pub key_line_fine : (text : List ℕ) → Fine Anything (key_line text)
key_line_fine text = key_fine (word_after (codes "key ") text) (word_fine (codes "key ") text)

-- the probabilities of a rule are valid for a program
abbrev pub Chances : RuleLine ℕ → Type 0
Chances (Nasch p) = p ≤ CERTAIN
Chances (Vdr p p0) = (p ≤ CERTAIN) × (p0 ≤ CERTAIN)
Chances (Rickert p c) = (p ≤ CERTAIN) × (c ≤ CERTAIN)
Chances Own = Unit {0}

-- a later rule is in force from a step on that is in order, and there is room for it
pub record InOrder (room steps least : ℕ) (at : ℕ × RuleLine ℕ) : Type 0 where
  pub room_left : 0 < room
  pub rises : least ≤ at.0
  pub below : at.0 < steps
  pub chances : Chances at.1

chance_fine : (word : List ℕ) → Fine (InRange 0 CERTAIN) (probability_of word)
chance_fine word = within_fine 0 CERTAIN (number_of word)

two_fine : (make : ℕ → ℕ → RuleLine ℕ) → ((p c : ℕ) → p ≤ CERTAIN → c ≤ CERTAIN → Chances (make p c)) → (first second : List ℕ)
    → Fine Chances (probability_of first >>= λ p. probability_of second >>= λ c. Ok (make p c))
two_fine make fit first second =
    bind_fine (InRange 0 CERTAIN) Chances (probability_of first) (λ p. probability_of second >>= λ c. Ok (make p c)) (chance_fine first) (λ p h.
    bind_fine (InRange 0 CERTAIN) Chances (probability_of second) (λ c. Ok (make p c)) (chance_fine second) (λ c k. fit p c h.high k.high))

rule_numbers_fine : (words : RuleLine (List ℕ)) → Fine Chances (rule_with_probabilities words)
rule_numbers_fine (Nasch p) = bind_fine (InRange 0 CERTAIN) Chances (probability_of p) (λ p. Ok (Nasch p)) (chance_fine p) (λ p h. h.high)
rule_numbers_fine (Vdr p p0) = two_fine (λ p p0. Vdr p p0) (λ p p0 h k. (h, k)) p p0
rule_numbers_fine (Rickert p c) = two_fine (λ p c. Rickert p c) (λ p c h k. (h, k)) p c
rule_numbers_fine Own = tt

pub rule_line_fine : (text : List ℕ) → Fine Chances (rule_line text)
rule_line_fine text =
    bind_fine Anything Chances (ok_or (rule_words text) Line) rule_with_probabilities (found_fine (rule_words text)) (λ words any. rule_numbers_fine words)

abbrev Admits : ℕ → ℕ → ℕ → ℕ → Type 0
Admits room steps least step = (0 < room) × ((least ≤ step) × (step < steps))

both_hold : (room steps least step : ℕ) → 0 < room → (above below : Bool) → (above ≡ true → least ≤ step) → (below ≡ true → step < steps) → above && below ≡ true → Admits room steps least step
both_hold room steps least step some true true h k e = (some, (h refl, k refl))
both_hold room steps least step some true false h k e = absurd (cc e)
both_hold room steps least step some false below h k e = absurd (cc e)

room_left : (room : ℕ) → (room == 0) ≡ false → 0 < room
room_left room e = let apart = eqb-false room 0 e in omega arith

admit_step_fine : (room steps least step : ℕ) → Fine (Admits room steps least) (admit_step room steps least step)
admit_step_fine room steps least step =
    choose (Admits room steps least) (room == 0) (Err TooMany) (if nat_le least step && nat_lt step steps then Ok step else Err Order) (λ e. too_many_other) (λ e.
    choose (Admits room steps least) (nat_le least step && nat_lt step steps) (Ok step) (Err Order)
    (both_hold room steps least step (room_left room e) (nat_le least step) (nat_lt step steps) (leb-true least step) (ltb-true step steps)) (λ e. order_other))

pub later_line_fine : (room steps least : ℕ) (text : List ℕ) → Fine (InOrder room steps least) (later_line room steps least text)
later_line_fine room steps least text =
    bind_fine Anything (InOrder room steps least) (ok_or (later_words text) Line) _ (found_fine (later_words text)) (λ words any.
    bind_fine (InRange 0 LONGEST_NUMBER) (InOrder room steps least) (step_of words.0) _ (within_fine 0 LONGEST_NUMBER (number_of words.0)) (λ step any.
    bind_fine Chances (InOrder room steps least) (rule_with_probabilities words.1) _ (rule_numbers_fine words.1) (λ rule fit.
    bind_fine (Admits room steps least) (InOrder room steps least) (admit_step room steps least step) _ (admit_step_fine room steps least step) (λ from in_order.
    record { room_left = in_order.0; rises = in_order.1.0; below = in_order.1.1; chances = fit }))))
