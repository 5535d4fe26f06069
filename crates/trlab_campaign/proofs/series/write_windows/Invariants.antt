use Rattle.std.proofs.Common.{◌≡◌, ◌+◌, ◌-◌, ◌*◌, ℕ, false}
use Rattle.trlab_road.specs.Cells.{Cells}
use Rattle.trlab_step.specs.declared.tally.StepTally.{StepTally}
use Rattle.trlab_campaign.{specs.{SeriesOutput.IsCourse, Writers.bytes_of}, proofs.Owed.Owes}
use Rattle.trlab_campaign.proofs.SeriesLines.{lines_from}
use Rattle.trlab_campaign.proofs.series.write_windows.Given as goal

abbrev pub invariant-loop : goal.invariant-loop
invariant-loop g l = record {
  seed : l.run.seed ≡ l.fn.run.seed;
  sheet : l.run.sheet ≡ l.fn.run.sheet;
  at : l.run.step ≡ l.windows.from + l.counter * l.windows.every;
  owes : (roads : ℕ → Cells) (tallies : ℕ → StepTally) → IsCourse l.fn.run.seed l.fn.run.sheet roads tallies
      → Owes (lines_from roads tallies l.windows.every l.windows.from 0 l.count) (lines_from roads tallies l.windows.every l.windows.from l.counter (l.count - l.counter))
      (bytes_of g.K.Sink l.fn.writer) (bytes_of g.K.Sink l.writer);
  works : g.K.Sink.failed l.writer ≡ false;
  flushed : g.K.Sink.flushes l.writer ≡ g.K.Sink.flushes l.fn.writer;
}
