-- The bytes that were written, and readers and writers of std that remember their calls.
use Rattle.std.specs.Prelude.{◌≡◌, ℕ, List, ◌++◌, take, Option, Result, Ok, Err, Bool}
use Rattle.std.specs.Io.KnownBytes.{Appends, Keeps}
use Rattle.trlab_campaign.specs.declared.device.{Flushes.Flushes, watched.Watched.Watched}
use Rattle.trlab_campaign.specs.declared.device.Sink as Sink

-- The bytes that were written: the bytes that the calls of a writer took, and the bytes that it makes known.

-- the bytes of a writer: all that its calls have taken (`accepted`), and those that it holds, if it makes
-- them known (`told`)
pub record SinkBytes : Type 0 where
  pub accepted : List ℕ
  pub told : Option (List ℕ)

-- the bytes of this writer, by the ghost functions of its sink
abbrev pub bytes_of : {K : Type 0} → Sink.Ghosts K → K → SinkBytes
bytes_of sink writer = record { accepted = sink.accepted writer; told = sink.written writer }

-- between `old` and `new`, exactly `bytes` were written
pub record HasWritten (old new : SinkBytes) (bytes : List ℕ) : Type 0 where
  pub accepted : new.accepted ≡ old.accepted ++ bytes
  pub told : Appends old.told new.told bytes

-- between `old` and `new`, nothing was written
pub record AddsNone (old new : SinkBytes) : Type 0 where
  pub accepted : new.accepted ≡ old.accepted
  pub told : Keeps old.told new.told

-- between `old` and `new`, a prefix of `text` was written, possibly none or all of it
pub record AddsPrefix (old new : SinkBytes) (text : List ℕ) : Type 0 where
  pub count : ℕ
  pub prefix : HasWritten old new (take count text)

-- between `old` and `new`, a successful call wrote the whole text, and a failed call a prefix of it
abbrev pub AddsByResult : {A E : Type 0} → Result A E → SinkBytes → SinkBytes → List ℕ → Type 0
AddsByResult (Ok done) old new text = HasWritten old new text
AddsByResult (Err fault) old new text = AddsPrefix old new text

-- Readers and writers of std that remember their calls.

-- the wrapped reader or writer of std
abbrev pub inner_device : {X : Type 0} → Watched X → X
inner_device watched = watched.inner

-- whether a call of the wrapped reader or writer has failed
abbrev pub has_failed : {X : Type 0} → Watched X → Bool
has_failed watched = watched.failed

-- whether the last call of the wrapped reader reported the end of its input
abbrev pub is_at_end : {X : Type 0} → Watched X → Bool
is_at_end watched = watched.at_end

-- all bytes that the wrapped reader has given so far, in order
abbrev pub given_bytes : {X : Type 0} → Watched X → List ℕ
given_bytes watched = watched.given.bytes

-- all bytes that the wrapped writer has accepted so far, in order
abbrev pub accepted_bytes : {X : Type 0} → Watched X → List ℕ
accepted_bytes watched = watched.accepted.bytes

-- whether everything that was written has been flushed
abbrev pub has_flushed_all : {X : Type 0} → Watched X → Bool
has_flushed_all watched = watched.is_flushed

-- how often the wrapped writer was flushed: never, once, or twice or more often
abbrev pub flush_count : {X : Type 0} → Watched X → Flushes
flush_count watched = watched.flushes
