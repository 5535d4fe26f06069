-- Laws of reading job texts, sweep texts and check texts.
use Rattle.std.specs.Prelude.{◌≡◌, ℕ, ◌<◌, List, length, Result, Err}
use Rattle.trlab_bounds.specs.declared.texts.TheConstants.{TEXT_LIMIT}
use Rattle.trlab_texts.specs.{Causes.IsNotStandardRefused, Reading.LocatedFault}

-- every text has a result: a value, or a first fault
abbrev pub HasSomeResult : {A : Type 0} → (List ℕ → Result A LocatedFault → Type 0) → Type 0
HasSomeResult IsResult = (text : List ℕ) → (result : _) × IsResult text result

-- every text has at most one result
abbrev pub HasAtMostOneResult : {A : Type 0} → (List ℕ → Result A LocatedFault → Type 0) → Type 0
HasAtMostOneResult IsResult =
    (text : List ℕ) (result other : _) → IsResult text result → IsResult text other → result ≡ other

-- no text is rejected because the verifier rejects a standard rule
abbrev pub NeverRefusesStandardRules : {A : Type 0} → (List ℕ → Result A LocatedFault → Type 0) → Type 0
NeverRefusesStandardRules IsResult =
    (text : List ℕ) (fault : LocatedFault) → IsResult text (Err fault) → IsNotStandardRefused fault.cause

-- all texts of more than TEXT_LIMIT bytes have the same results, so a reader needs no more than the first
-- TEXT_LIMIT + 1 bytes
abbrev pub LongTextsHaveTheSameResults : {A : Type 0} → (List ℕ → Result A LocatedFault → Type 0) → Type 0
LongTextsHaveTheSameResults IsResult = (text other : List ℕ) (result : _)
    → TEXT_LIMIT < length text → TEXT_LIMIT < length other → IsResult text result → IsResult other result
