-- Readers and writers: the bytes that their calls transfer, and how often a writer is flushed.
use Rattle.std.specs.Prelude.{◌≡◌, ◌⊎◌, Bool, true, ℕ, ◌<◌, ◌≤◌, List, [], ◌++◌, length, take, Option, Result}
use Rattle.std.specs.{Prelude.{Ok, Err}, Io.KnownBytes.Consumes}
use Rattle.trlab_campaign.specs.declared.device.Flushes.{Flushes, TheVariants.{Never, Once, Often}}
use Rattle.trlab_bounds.specs.declared.texts.TheConstants.{TEXT_LIMIT}

-- How often a writer was flushed, counted up to the second time.

-- the number of flushes after one more, counted up to two: `Often` is twice or more often
abbrev pub once_more : Flushes → Flushes
once_more Never = Once
once_more Once = Often
once_more Often = Often

-- between `old` and `new` the writer was flushed once more, and everything has been flushed
abbrev pub FlushedOnce : Bool → Flushes → Flushes → Type 0
FlushedOnce all_flushed old new = (all_flushed ≡ true) × (new ≡ once_more old)

-- between `old` and `new` the writer was flushed at most once, as far as flushes are counted
abbrev pub FlushedAtMostOnce : Flushes → Flushes → Type 0
FlushedAtMostOnce old new = (new ≡ old) ⊎ (new ≡ once_more old)

-- The bytes that calls of readers and writers transfer, and the part of an input that is read.

-- the bytes of a buffer that a call of a reader or writer transferred: the first `count` if it returned
-- `count`, and none if it failed
abbrev pub transferred_bytes : {E : Type 0} → Result ℕ E → List ℕ → List ℕ
transferred_bytes (Ok count) bytes = take count bytes
transferred_bytes (Err fault) bytes = []

-- a call of a reader reported the end of the input: it gave no byte to a buffer with room
abbrev pub ReportsEnd : {E : Type 0} → Result ℕ E → List ℕ → Type 0
ReportsEnd (Ok count) buffer = (count ≡ 0) × (0 < length buffer)
ReportsEnd (Err fault) buffer = ⊥

-- all bytes that the calls of a reader have given, first `before` and then `after`, have grown by bytes with
-- the property `Holds`
abbrev pub GaveBytes : (List ℕ → Type 0) → List ℕ → List ℕ → Type 0
GaveBytes Holds before after = (bytes : List ℕ) × ((after ≡ before ++ bytes) × Holds bytes)

-- of the bytes `old` that were left to read, the first were read, at most `most`, and `new` is left; always
-- true if the reader does not make its bytes known
abbrev pub ConsumesUpTo : ℕ → Option (List ℕ) → Option (List ℕ) → Type 0
ConsumesUpTo most old new = (read : List ℕ) × (length read ≤ most) × Consumes old new read

-- `text` is the whole input, or both are too long: they have more than TEXT_LIMIT bytes
abbrev pub IsInputOrTooLong : List ℕ → List ℕ → Type 0
IsInputOrTooLong text input = (text ≡ input) ⊎ ((TEXT_LIMIT < length text) × (TEXT_LIMIT < length input))
