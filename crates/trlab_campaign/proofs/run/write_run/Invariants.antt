use Rattle.std.proofs.Common.{◌≡◌, ◌-◌, false}
use Rattle.trlab_campaign.{specs.{Output.every_from, Writers.bytes_of}, proofs.Running.Writes}
use Rattle.trlab_campaign.proofs.run.write_run.Given as goal

abbrev pub invariant-loop : goal.invariant-loop
invariant-loop g l = record {
  writes : Writes (every_from l.shown.every l.shown.from) l.steps l.fn.run l.counter (l.steps - l.counter) l.run (bytes_of g.K.Sink l.fn.writer) (bytes_of g.K.Sink l.writer);
  at : l.run.step ≡ l.counter;
  works : g.K.Sink.failed l.writer ≡ false;
  flushed : g.K.Sink.flushes l.writer ≡ g.K.Sink.flushes l.fn.writer;
}
