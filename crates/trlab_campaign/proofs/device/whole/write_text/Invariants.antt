use Rattle.std.proofs.Common.{◌≡◌, ◌≤◌, ◌-◌, length, take}
use Rattle.trlab_campaign.specs.Writers.{HasWritten, bytes_of}
use Rattle.trlab_campaign.proofs.device.whole.write_text.Given as goal

abbrev pub invariant-loop-done : goal.invariant-loop-done
invariant-loop-done g l = record {
  inside : l.done ≤ length l.text;
  wrote : HasWritten (bytes_of g.K.Sink l.fn.writer) (bytes_of g.K.Sink l.writer) (take l.done l.text);
  works : g.K.Sink.failed l.writer ≡ g.K.Sink.failed l.fn.writer;
  flushed : g.K.Sink.flushes l.writer ≡ g.K.Sink.flushes l.fn.writer;
}

abbrev pub decreases-loop-done : goal.decreases-loop-done
decreases-loop-done g l = length l.text - l.done
