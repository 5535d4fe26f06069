-- How an engine ends, and its progress: the bytes that it has written, and those of its reader.
use Rattle.std.specs.Prelude.{ℕ, ◌*◌, ◌/◌, nat_le, if◌then◌else◌, ◌≡◌, ◌+◌, ◌≤◌, ◌||◌, ◌⊎◌, ◌↔◌, Bool, true}
use Rattle.std.specs.Prelude.{false, List, length, IfSome, Result, Ok, Err, IfErr, OnOk}
use Rattle.trlab_bounds.specs.declared.texts.TheConstants.{TEXT_LIMIT}
use Rattle.trlab_campaign.specs.declared.{device.Flushes.Flushes, end.End.{End, TheVariants.{Done, Refused}}}
use Rattle.trlab_campaign.specs.declared.end.{End.TheVariants.{Memory, DeviceFault}, Failure.Failure}
use Rattle.trlab_campaign.specs.{declared.end.Failure.TheVariants.Device, Device.{ConsumesUpTo, GaveBytes}}
use Rattle.trlab_campaign.specs.{Device.{FlushedAtMostOnce, FlushedOnce}, Output.Outputs, Writers.HasWritten}
use Rattle.trlab_campaign.specs.Writers.{AddsNone, AddsPrefix, SinkBytes, bytes_of}
use Rattle.trlab_campaign.specs.declared.device.Sink as Sink
use Rattle.trlab_campaign.specs.declared.device.Source as Source

-- The progress of work, in percent.

-- the percentage of the work that is done with `done` of `total` parts, rounded down: 66 for 2 of 3; 100 if
-- no part is left, also if there are no parts
abbrev pub percent_done : ℕ → ℕ → ℕ
percent_done done total = if nat_le total done then 100 else done * 100 / total

-- How an engine ends: the bytes that it has written, whether they were flushed, and the bytes of its reader.

-- between `old` and `new`, a complete output was written, which is a rejection exactly if `rejected` is true
abbrev pub WroteAll : Outputs → Bool → SinkBytes → SinkBytes → Type 0
WroteAll IsOutput rejected old new = (out : List ℕ) × (IsOutput rejected out × HasWritten old new out)

-- between `old` and `new`, nothing was written, or a prefix of a complete output
abbrev pub WrotePrefix : Outputs → SinkBytes → SinkBytes → Type 0
WrotePrefix IsOutput old new =
    AddsNone old new
    ⊎ ((rejected : Bool) × ((out : List ℕ) × (IsOutput rejected out × AddsPrefix old new out)))

-- between `old` and `new`, a successful call wrote a complete output that is not a rejection; a failed call
-- wrote nothing, or a prefix of a complete output
abbrev pub WroteByResult : {A E : Type 0} → Outputs → Result A E
    → SinkBytes → SinkBytes → Type 0
WroteByResult IsOutput (Ok done) old new = WroteAll IsOutput false old new
WroteByResult IsOutput (Err fault) old new = WrotePrefix IsOutput old new

-- the bytes that an engine has written, by its end: a complete output at `Done`, a complete rejection at
-- `Refused`, and otherwise nothing or a prefix of a complete output
abbrev pub WroteAtEnd : Outputs → End → SinkBytes → SinkBytes → Type 0
WroteAtEnd IsOutput Done old new = WroteAll IsOutput false old new
WroteAtEnd IsOutput Refused old new = WroteAll IsOutput true old new
WroteAtEnd IsOutput Memory old new = WrotePrefix IsOutput old new
WroteAtEnd IsOutput DeviceFault old new = WrotePrefix IsOutput old new

-- the flushes of an engine's writer, by the end: one flush of everything at `Done` or `Refused`, none if an
-- allocation failed, and at most one if a device failed
abbrev pub FlushedAtEnd : End → Bool → Flushes → Flushes → Type 0
FlushedAtEnd Done all_flushed old new = FlushedOnce all_flushed old new
FlushedAtEnd Refused all_flushed old new = FlushedOnce all_flushed old new
FlushedAtEnd Memory all_flushed old new = new ≡ old
FlushedAtEnd DeviceFault all_flushed old new = FlushedAtMostOnce old new

-- the bytes that an engine has written of the one output `out`, which is a rejection exactly if `rejected` is
-- true, by its end: all of it at `Done` or `Refused`, which agrees with `rejected`; none if an allocation
-- failed; and a prefix if a device failed
abbrev pub WroteOutputAtEnd : Bool → List ℕ → End → SinkBytes → SinkBytes → Type 0
WroteOutputAtEnd rejected out Done old new = (rejected ≡ false) × HasWritten old new out
WroteOutputAtEnd rejected out Refused old new = (rejected ≡ true) × HasWritten old new out
WroteOutputAtEnd rejected out Memory old new = AddsNone old new
WroteOutputAtEnd rejected out DeviceFault old new = AddsPrefix old new out

-- the writer after a call that does not flush it: it still works if the call succeeded, and after a failed
-- call it has failed exactly if the failure is `Device`
pub record LeavesUnflushed {A K : Type 0} (sink : Sink.Ghosts K) (result : Result A Failure)
    (old new : K) : Type 0 where
  pub works : OnOk result (sink.failed new ≡ false)
  pub fails : IfErr result (λ fault. (fault ≡ Device) ↔ (sink.failed new ≡ true))
  pub flushed : sink.flushes new ≡ sink.flushes old

-- the writer when an engine has ended: `Wrote` holds of the end and the written bytes, the writer was flushed
-- as `FlushedAtEnd` states, and the end is `DeviceFault` exactly if the writer has failed
pub record LeavesWriter {K : Type 0} (sink : Sink.Ghosts K)
    (Wrote : End → SinkBytes → SinkBytes → Type 0)
    (end : End) (old new : K) : Type 0 where
  pub answer : Wrote end (bytes_of sink old) (bytes_of sink new)
  pub handed : FlushedAtEnd end (sink.is_flushed new) (sink.flushes old) (sink.flushes new)
  pub device : (end ≡ DeviceFault) ↔ (sink.failed new ≡ true)

-- the end of an engine that reads an input and writes one of the possible outputs for it: `before` and
-- `after` are the reader, `old` and `new` the writer
pub record EngineEnds {S K : Type 0} (source : Source.Ghosts S) (sink : Sink.Ghosts K)
    (outputs : List ℕ → Outputs) (end : End) (before after : S) (old new : K) : Type 0 where
  -- the writer's calls took the output for exactly the bytes that the reader's calls gave, or a prefix of the
  -- output if the end allows it
  pub exact : GaveBytes (λ text. WroteAtEnd (outputs text) end (bytes_of sink old) (bytes_of sink new))
      (source.given before) (source.given after)
  -- the written output is also the output for all bytes that were left to read, if the reader makes them
  -- known
  pub answer : IfSome (source.left before)
      (λ text. WroteAtEnd (outputs text) end (bytes_of sink old) (bytes_of sink new))
  -- nothing was written if the reader has failed
  pub silent : source.failed after ≡ true → AddsNone (bytes_of sink old) (bytes_of sink new)
  -- a complete output was flushed once; nothing was flushed if an allocation failed
  pub handed : FlushedAtEnd end (sink.is_flushed new) (sink.flushes old) (sink.flushes new)
  -- the end is `DeviceFault` exactly if the reader or the writer has failed
  pub device : (end ≡ DeviceFault) ↔ ((source.failed after || sink.failed new) ≡ true)
  -- at most one byte more than the size limit of an input was read, of the bytes that were left
  pub read : ConsumesUpTo (TEXT_LIMIT + 1) (source.left before) (source.left after)
  -- the reader's calls gave at most one byte more than the size limit of an input
  pub stops : GaveBytes (λ bytes. length bytes ≤ TEXT_LIMIT + 1) (source.given before) (source.given after)
  -- at `Done` and `Refused` the input was read to its end: the reader's last call reported the end, unless
  -- its calls gave more bytes than the size limit of an input
  pub whole : (end ≡ Done) ⊎ (end ≡ Refused)
      → GaveBytes (λ bytes. length bytes ≤ TEXT_LIMIT → source.at_end after ≡ true)
      (source.given before) (source.given after)
