-- Texts that are too long have only one fault, so that all of them have the same meaning.
use Rattle.std.proofs.Common.{◌≡◌, ℕ, ◌<◌, List, length, refl, sym, subst, Result, Err, lt-ltb}
use Rattle.trlab_bounds.specs.declared.texts.TheConstants.{TEXT_LIMIT}
use Rattle.trlab_texts.specs.{declared.fault.Cause.TheVariants.TooBig, Reading.{LocatedFault, TextParsesTo}}

-- this fault
abbrev pub too_big : LocatedFault
too_big = record { line = 0; cause = TooBig }

-- a text that is too long has this fault
pub long_text : {A : Type 0} (Says : List ℕ → Result A LocatedFault → Type 0) (text : List ℕ) → TEXT_LIMIT < length text → TextParsesTo Says text (Err too_big)
long_text Says text long = rw (lt-ltb TEXT_LIMIT (length text) long) refl

-- and no other meaning
pub only_too_big : {A : Type 0} (Says : List ℕ → Result A LocatedFault → Type 0) (text : List ℕ) (says : Result A LocatedFault) → TEXT_LIMIT < length text → TextParsesTo Says text says → says ≡ Err too_big
only_too_big Says text says long told = rw (lt-ltb TEXT_LIMIT (length text) long) at told

-- any two of them have the same meaning
pub same_if_long : {A : Type 0} (Says : List ℕ → Result A LocatedFault → Type 0) (text other : List ℕ) (says : Result A LocatedFault) → TEXT_LIMIT < length text → TEXT_LIMIT < length other
    → TextParsesTo Says text says → TextParsesTo Says other says
same_if_long {A} Says text other says long also told =
    subst (λ (r : Result A LocatedFault). TextParsesTo Says other r) (sym (only_too_big Says text says long told)) (long_text Says other also)
