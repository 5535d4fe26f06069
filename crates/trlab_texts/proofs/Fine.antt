-- Results for words, lines and texts: values have the required property, and error numbers are not the one
-- for a rejected standard rule.
use Rattle.std.proofs.Common.{◌≡◌, ◌≢◌, ℕ, ◌+◌, ◌<◌, ◌≤◌, ◌&&◌, Bool, true, false, List, refl, arith}
use Rattle.std.proofs.Common.{if◌then◌else◌, leb-true, Option, None, Some, ok_or, Result, Ok, Err}
use Rattle.std.proofs.Common.{MatchResult, nat_le}
use Rattle.trlab_road.specs.declared.fault.RoadFault.{RoadFault, TheVariants.Lanes}
use Rattle.trlab_code.specs.declared.{fault.CodeFault.{CodeFault, TheVariants.Short}, program.Kind.Kind}
use Rattle.trlab_code.specs.Program.{Program}
use Rattle.trlab_lines.specs.Lines.{without_prefix}
use Rattle.trlab_asm.specs.{declared.fault.Why.{Why, TheVariants.Word}, Operands.{◌>>=◌}}
use Rattle.trlab_verify.{specs.Verdict.IsRefused, proofs.ReasonNumbers.numbered_from_one}
use Rattle.trlab_texts.specs.declared.fault.Cause.{Cause, TheVariants.{Line, Number, Key, OneLane, Order}}
use Rattle.trlab_texts.specs.declared.fault.Cause.TheVariants.{TooMany, Work, Hex, TooBig}
use Rattle.trlab_texts.specs.declared.fault.Cause.TheVariants.{Program as InProgram, Code, Road, Verdict}
use Rattle.trlab_texts.specs.{Causes.IsNotStandardRefused, Reading.{LocatedFault, at_line}, Words.is_word}
use Rattle.trlab_texts.specs.Words.{number_of, one_word, number_within, within, word_after}

-- the number of another cause
apart : (n : ℕ) → n < 40 → n ≢ 40
apart n low e = absurd (omega (arith, low, e))

pub line_other : IsNotStandardRefused Line
line_other = apart 1 (omega arith)

pub number_other : IsNotStandardRefused Number
number_other = apart 2 (omega arith)

pub key_other : IsNotStandardRefused Key
key_other = apart 3 (omega arith)

pub one_lane_other : IsNotStandardRefused OneLane
one_lane_other = apart 4 (omega arith)

pub order_other : IsNotStandardRefused Order
order_other = apart 5 (omega arith)

pub too_many_other : IsNotStandardRefused TooMany
too_many_other = apart 6 (omega arith)

pub work_other : IsNotStandardRefused Work
work_other = apart 7 (omega arith)

pub hex_other : IsNotStandardRefused Hex
hex_other = apart 8 (omega arith)

pub too_big_other : IsNotStandardRefused TooBig
too_big_other = apart 9 (omega arith)

pub program_other : (why : Why) → IsNotStandardRefused (InProgram why)
program_other Word = apart _ (omega arith)
program_other _ = apart _ (omega arith)

pub code_other : (fault : CodeFault) → IsNotStandardRefused (Code fault)
code_other Short = apart _ (omega arith)
code_other _ = apart _ (omega arith)

pub road_other : (fault : RoadFault) → IsNotStandardRefused (Road fault)
road_other Lanes = apart _ (omega arith)
road_other _ = apart _ (omega arith)

-- the reason for which the verifier rejects a user's program
pub verdict_other : (kind : Kind) (program : Program) (at reason : ℕ) → IsRefused kind program at reason → IsNotStandardRefused (Verdict reason)
verdict_other kind program at reason refused e =
    let some = numbered_from_one kind program at reason refused in
    let same : 40 + reason ≡ 40 = e in
    absurd (omega (arith, some, same))

-- a fault of a text with another cause
abbrev pub IsOtherFault : LocatedFault → Type 0
IsOtherFault fault = IsNotStandardRefused fault.cause

-- the property that every value has
abbrev pub Anything : {A : Type 0} → A → Type 0
Anything x = Unit {0}

-- the result for a line has the required property, or has another cause
abbrev pub Fine : {A : Type 0} → (A → Type 0) → Result A Cause → Type 0
Fine Keeps says = MatchResult says Keeps IsNotStandardRefused

-- the same for a text
abbrev pub FineText : {A : Type 0} → (A → Type 0) → Result A LocatedFault → Type 0
FineText Keeps says = MatchResult says Keeps IsOtherFault

pub at_line_fine : {A : Type 0} (P : A → Type 0) (number : ℕ) (says : Result A Cause) → Fine P says → FineText P (at_line number says)
at_line_fine P number (Ok x) fine = fine
at_line_fine P number (Err cause) fine = fine

-- one result after another
pub bind_fine : {A B : Type 0} (P : A → Type 0) (Q : B → Type 0) (first : Result A Cause) (next : A → Result B Cause)
    → Fine P first → ((x : A) → P x → Fine Q (next x)) → Fine Q (first >>= next)
bind_fine P Q (Ok x) next fine rest = rest x fine
bind_fine P Q (Err cause) next fine rest = fine

-- one result or another, by a test
pub choose : {A : Type 0} (P : A → Type 0) (b : Bool) (x y : Result A Cause) → (b ≡ true → Fine P x) → (b ≡ false → Fine P y) → Fine P (if b then x else y)
choose P true x y one other = one refl
choose P false x y one other = other refl

pub found_fine : {A : Type 0} (found : Option A) → Fine Anything (ok_or found Line)
found_fine None = line_other
found_fine (Some x) = tt

one_word_fine : (found : Option (List ℕ)) → Fine Anything (one_word found)
one_word_fine None = line_other
one_word_fine (Some word) = choose Anything (is_word word) (Ok word) (Err Line) (λ e. tt) (λ e. line_other)

-- the one word after a name
pub word_fine : (name text : List ℕ) → Fine Anything (word_after name text)
word_fine name text = one_word_fine (without_prefix name text)

-- a number from low to high
pub record InRange (least most n : ℕ) : Type 0 where
  pub low : least ≤ n
  pub high : n ≤ most

both_hold : (low high n : ℕ) (above below : Bool) → (above ≡ true → low ≤ n) → (below ≡ true → n ≤ high) → above && below ≡ true → InRange low high n
both_hold low high n true true h k e = record { low = h refl; high = k refl }
both_hold low high n true false h k e = absurd (cc e)
both_hold low high n false below h k e = absurd (cc e)

pub within_fine : (low high : ℕ) (number : Option ℕ) → Fine (InRange low high) (within low high number)
within_fine low high None = number_other
within_fine low high (Some n) =
    choose (InRange low high) (nat_le low n && nat_le n high) (Ok n) (Err Number)
    (both_hold low high n (nat_le low n) (nat_le n high) (leb-true low n) (leb-true n high)) (λ e. number_other)

number_fine : (low high : ℕ) (word : Result (List ℕ) Cause) → Fine Anything word → Fine (InRange low high) (number_within low high word)
number_fine low high (Ok word) fine = within_fine low high (number_of word)
number_fine low high (Err cause) fine = fine

-- the number after a name
pub numbered : (name text : List ℕ) (low high : ℕ) → Fine (InRange low high) (number_within low high (word_after name text))
numbered name text low high = number_fine low high (word_after name text) (word_fine name text)
