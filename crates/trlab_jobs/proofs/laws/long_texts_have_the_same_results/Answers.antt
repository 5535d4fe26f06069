use Rattle.trlab_lines.specs.Lines.{lines_of}
use Rattle.trlab_texts.proofs.LongTexts.{same_if_long}
use Rattle.trlab_jobs.specs.{Check.CheckLinesParseTo, Job.JobLinesParseTo, Sweep.SweepLinesParseTo}
use Rattle.trlab_jobs.proofs.laws.long_texts_have_the_same_results.Goals as goal

pub returns : goal.returns
returns c = record {
  job = same_if_long JobLinesParseTo;
  sweep = same_if_long SweepLinesParseTo;
  check = same_if_long (λ text. CheckLinesParseTo (lines_of text));
}
