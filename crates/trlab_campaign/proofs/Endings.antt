-- How runs end, by the output that was written.
use Rattle.std.proofs.Common.{◌≡◌, ◌∙◌, List, ℕ, length, refl, subst, sym, Bool, true, false, inl, inr}
use Rattle.std.proofs.{Common.{Option, None, Some, IfSome, Result, Ok, Err, lt-ltb}, lemmas.Bool.{false≢true}}
use Rattle.std.proofs.lemmas.Option.{IfSome_then}
use Rattle.trlab_campaign.specs.declared.end.End.{End, TheVariants.{Done, Refused, Memory, DeviceFault}}
use Rattle.trlab_campaign.specs.{Device.IsInputOrTooLong, Output.{IsOutputForText, Outputs, fault_line}}
use Rattle.trlab_campaign.specs.Ending.{EngineEnds, WroteAtEnd, LeavesWriter, WroteOutputAtEnd, WroteAll}
use Rattle.trlab_campaign.specs.{Ending.WrotePrefix, Writers.{SinkBytes, AddsNone, bytes_of}}
use Rattle.trlab_campaign.proofs.WrittenBytes.{kept, prefix_kept}
use Rattle.trlab_campaign.specs.declared.device.Sink as Sink
use Rattle.trlab_campaign.specs.declared.device.Source as Source
use Rattle.trlab_bounds.specs.declared.texts.TheConstants.{TEXT_LIMIT}
use Rattle.trlab_texts.specs.Reading.{LocatedFault, TextParsesTo}

-- a complete output was written, and the last call kept the bytes
pub all_kept : (IsWhole : Outputs) (rejected : Bool) (old a b : SinkBytes) → WroteAll IsWhole rejected old a → AddsNone a b → WrotePrefix IsWhole old b
all_kept IsWhole rejected old a b wrote keeps = inr (rejected, (wrote.0, (wrote.1.0, prefix_kept old a b wrote.0 wrote.1.1 keeps)))

-- the complete output of a text, whose writing ended with this result
pub output_ends : (IsWhole : Outputs) (rejected : Bool) (out : List ℕ) (e : End) (old new : SinkBytes) → IsWhole rejected out
    → WroteOutputAtEnd rejected out e old new → WroteAtEnd IsWhole e old new
output_ends IsWhole rejected out Done old new whole ends = (out, (subst (λ (r : Bool). IsWhole r out) ends.0 whole, ends.1))
output_ends IsWhole rejected out Refused old new whole ends = (out, (subst (λ (r : Bool). IsWhole r out) ends.0 whole, ends.1))
output_ends IsWhole rejected out Memory old new whole ends = inl ends
output_ends IsWhole rejected out DeviceFault old new whole ends = inr (rejected, (out, (whole, ends)))

-- an end that is correct for some outputs is correct for all outputs that include them
ends_among : (IsOwn IsWhole : Outputs) (e : End) (old new : SinkBytes) → ((rejected : Bool) (out : List ℕ) → IsOwn rejected out → IsWhole rejected out)
    → WroteAtEnd IsOwn e old new → WroteAtEnd IsWhole e old new
ends_among IsOwn IsWhole Done old new among ends = (ends.0, (among false ends.0 ends.1.0, ends.1.1))
ends_among IsOwn IsWhole Refused old new among ends = (ends.0, (among true ends.0 ends.1.0, ends.1.1))
ends_among IsOwn IsWhole Memory old new among (inl kept) = inl kept
ends_among IsOwn IsWhole Memory old new among (inr wrote) = inr (wrote.0, (wrote.1.0, (among wrote.0 wrote.1.0 wrote.1.1.0, wrote.1.1.1)))
ends_among IsOwn IsWhole DeviceFault old new among (inl kept) = inl kept
ends_among IsOwn IsWhole DeviceFault old new among (inr wrote) = inr (wrote.0, (wrote.1.0, (among wrote.0 wrote.1.0 wrote.1.1.0, wrote.1.1.1)))

-- an engine that is correct for some outputs is correct for all outputs that include them
pub engine_ends_among : {S K : Type 0} (source : Source.Ghosts S) (sink : Sink.Ghosts K) (own whole : List ℕ → Outputs) (e : End) (before after : S) (old new : K)
    → ((text : List ℕ) (rejected : Bool) (out : List ℕ) → own text rejected out → whole text rejected out)
    → EngineEnds source sink own e before after old new → EngineEnds source sink whole e before after old new
engine_ends_among source sink own whole e before after old new among ends = record {
  exact = (ends.exact.0, (ends.exact.1.0, ends_among (own ends.exact.0) (whole ends.exact.0) e (bytes_of sink old) (bytes_of sink new) (among ends.exact.0) ends.exact.1.1));
  answer = IfSome_then (source.left before) ends.answer (λ text. ends_among (own text) (whole text) e (bytes_of sink old) (bytes_of sink new) (among text));
  silent = ends.silent;
  handed = ends.handed;
  device = ends.device;
  read = ends.read;
  stops = ends.stops;
  whole = ends.whole;
}

-- the output for the meaning of a text without a fault
pub said_ends : {A : Type 0} (Says : List ℕ → Result A LocatedFault → Type 0) (Output : A → Outputs) (e : End) (text : List ℕ) (x : A) (old new : SinkBytes)
    → Says text (Ok x) → WroteAtEnd (Output x) e old new → WroteAtEnd (IsOutputForText Says Output text) e old new
said_ends Says Output e text x old new says ends = ends_among (Output x) (IsOutputForText Says Output text) e old new (λ rejected out is. (Ok x, (says, is))) ends

-- the output for a text with a fault
pub rejection_ends : {A : Type 0} (Says : List ℕ → Result A LocatedFault → Type 0) (Output : A → Outputs) (e : End) (text : List ℕ) (fault : LocatedFault) (old new : SinkBytes)
    → Says text (Err fault) → WroteOutputAtEnd true (fault_line fault) e old new → WroteAtEnd (IsOutputForText Says Output text) e old new
rejection_ends Says Output e text fault old new says ends =
    output_ends (IsOutputForText Says Output text) true (fault_line fault) e old new (Err fault, (says, (refl, refl))) ends

-- the meaning of the bytes that were read is the meaning of the input
pub read_says : {A : Type 0} (Says : List ℕ → Result A LocatedFault → Type 0) (text input : List ℕ) (says : Result A LocatedFault)
    → IsInputOrTooLong text input → TextParsesTo Says text says → TextParsesTo Says input says
read_says Says text input says (inl same) is = subst (λ (t : List ℕ). TextParsesTo Says t says) same is
read_says Says text input says (inr long) is =
    rw (lt-ltb TEXT_LIMIT (length input) long.1) (rw (lt-ltb TEXT_LIMIT (length text) long.0) at is)

-- a property of every text holds of an optional text
pub if_told : (P : List ℕ → Type 0) (left : Option (List ℕ)) → ((text : List ℕ) → P text) → IfSome left P
if_told P None holds = tt
if_told P (Some text) holds = holds text

-- if an allocation fails while a complete output is written, nothing was written
pub kept_at_memory : (rejected : Bool) (out : List ℕ) (e : End) (old new : SinkBytes) → WroteOutputAtEnd rejected out e old new → e ≡ Memory → AddsNone old new
kept_at_memory rejected out Memory old new ends is = ends
kept_at_memory rejected out Done old new ends is = absurd (cc is)
kept_at_memory rejected out Refused old new ends is = absurd (cc is)
kept_at_memory rejected out DeviceFault old new ends is = absurd (cc is)

memory≢device : Memory ≡ DeviceFault → ⊥
memory≢device e = cc e

-- an allocation failed before anything was written
pub memory_ends : {K : Type 0} (sink : Sink.Ghosts K) (IsWhole : Outputs) (writer : K) → sink.failed writer ≡ false → LeavesWriter sink (WroteAtEnd IsWhole) Memory writer writer
memory_ends sink IsWhole writer works = record {
  answer = inl (kept (bytes_of sink writer));
  handed = refl;
  device = (λ e. absurd (memory≢device e), λ failed. absurd (false≢true (sym works ∙ failed)));
}
