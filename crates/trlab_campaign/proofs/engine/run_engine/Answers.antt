use Rattle.std.proofs.Common.{◌≡◌, ◌⊎◌, ℕ, List, Bool, true, false, refl, sym, ◌∙◌, inl, inr}
use Rattle.std.proofs.lemmas.{Bool.{false≢true}, Option.IfSome_then}
use Rattle.trlab_campaign.specs.declared.end.End.TheVariants.{Done, Refused, Memory, DeviceFault}
use Rattle.trlab_campaign.{specs.{Ending.WroteAtEnd, Writers.bytes_of}, proofs.Endings.if_told}
use Rattle.trlab_campaign.proofs.WrittenBytes.{kept}
use Rattle.trlab_campaign.proofs.engine.run_engine.Goals as goal

-- a test that is not true is false
not_true : (b : Bool) → (b ≡ true → ⊥) → b ≡ false
not_true true never = absurd (never refl)
not_true false never = refl

memory≢device : Memory ≡ DeviceFault → ⊥
memory≢device e = cc e

memory_is_incomplete : (Memory ≡ Done) ⊎ (Memory ≡ Refused) → ⊥
memory_is_incomplete (inl e) = cc e
memory_is_incomplete (inr e) = cc e

device_is_incomplete : (DeviceFault ≡ Done) ⊎ (DeviceFault ≡ Refused) → ⊥
device_is_incomplete (inl e) = cc e
device_is_incomplete (inr e) = cc e

pub returns-in-Ok-clause-ends : goal.returns-in-Ok-clause-ends
returns-in-Ok-clause-ends g c =
    let read = c.in-Ok.ensures in
    let ends = rw c.deref.ensures.value at c.write.ensures.ends in
    let here = ends c.in-Ok.text.items (inl refl) in
    record {
      exact = (c.in-Ok.text.items, (read.given, here.answer));
      answer = IfSome_then (g.S.Source.left c.args.reader.now) read.text (λ input is. (ends input is).answer);
      silent = λ failed. absurd (false≢true (sym read.works ∙ failed));
      handed = here.handed;
      device = rw read.works here.device;
      read = read.read;
      stops = read.stops;
      whole = λ complete. (c.in-Ok.text.items, (read.given, read.whole));
    }

pub returns-in-Err-Memory-clause-ends : goal.returns-in-Err-Memory-clause-ends
returns-in-Err-Memory-clause-ends g c =
    let read = c.in-Err-Memory.ensures in
    let fault = rw c.in-Err-Memory.field-0-is at read.fails in
    let works : g.S.Source.failed c.read_text.new.reader ≡ false = not_true _ (λ failed. cc (fault.0 failed)) in
    record {
      exact = (read.stops.0, (read.stops.1.0, inl (kept _)));
      answer = if_told (λ (text : List ℕ). WroteAtEnd (g.E.Engine.outputs c.args.engine text) Memory (bytes_of g.K.Sink c.args.writer.now) (bytes_of g.K.Sink c.args.writer.now)) _ (λ text. inl (kept _));
      silent = λ failed. kept _;
      handed = refl;
      device = rw (works, c.requires.writer_works) (λ e. absurd (memory≢device e), λ e. absurd (false≢true e));
      read = read.read;
      stops = read.stops;
      whole = λ complete. absurd (memory_is_incomplete complete);
    }

pub returns-clause-ends : goal.returns-clause-ends
returns-clause-ends g c =
    let read = c.in-Err-Device.ensures in
    let fault = rw c.in-Err-Device.field-0-is at read.fails in
    let failed : g.S.Source.failed c.read_text.new.reader ≡ true = fault.1 refl in
    record {
      exact = (read.stops.0, (read.stops.1.0, inl (kept _)));
      answer = if_told (λ (text : List ℕ). WroteAtEnd (g.E.Engine.outputs c.args.engine text) DeviceFault (bytes_of g.K.Sink c.args.writer.now) (bytes_of g.K.Sink c.args.writer.now)) _ (λ text. inl (kept _));
      silent = λ failed. kept _;
      handed = inl refl;
      device = rw failed (λ e. refl, λ e. refl);
      read = read.read;
      stops = read.stops;
      whole = λ complete. absurd (device_is_incomplete complete);
    }

pub returns-in-Err-Memory-clause-kept : goal.returns-in-Err-Memory-clause-kept
returns-in-Err-Memory-clause-kept g c = λ at_once is. kept _

pub returns-clause-kept : goal.returns-clause-kept
returns-clause-kept g c = λ at_once is. kept _
