use Rattle.std.proofs.Common.{◌≡◌, ◌∙◌, ap, sym, refl, rules, true, false, true≢false}
use Rattle.trlab_command_line.specs.CommandLine.{reads_input, writes_at_once}
use Rattle.trlab_command_line.proofs.engines.execute.Goals as goal

pub returns-in-Check : goal.returns-in-Check
returns-in-Check g c = record {
  engine = λ reads. search rules;
  page = λ no. absurd (true≢false (sym (ap reads_input c.in-Check.is) ∙ no));
  device = c.check_text.ensures.ends.device;
  kept = λ once is. c.check_text.ensures.kept is;
  unread = λ no. absurd (true≢false (sym (ap reads_input c.in-Check.is) ∙ no));
}

pub returns-in-Run : goal.returns-in-Run
returns-in-Run g c = record {
  engine = λ reads. search rules;
  page = λ no. absurd (true≢false (sym (ap reads_input c.in-Run.is) ∙ no));
  device = c.run_shown_text.ensures.device;
  kept = λ once. absurd (true≢false (sym once ∙ ap writes_at_once c.in-Run.is));
  unread = λ no. absurd (true≢false (sym (ap reads_input c.in-Run.is) ∙ no));
}

pub returns-in-Sweep : goal.returns-in-Sweep
returns-in-Sweep g c = record {
  engine = λ reads. search rules;
  page = λ no. absurd (true≢false (sym (ap reads_input c.in-Sweep.is) ∙ no));
  device = c.run_sweep_with_progress.ensures.ends.device;
  kept = λ once is. c.run_sweep_with_progress.ensures.kept is;
  unread = λ no. absurd (true≢false (sym (ap reads_input c.in-Sweep.is) ∙ no));
}

pub returns-in-Series : goal.returns-in-Series
returns-in-Series g c = record {
  engine = λ reads. search rules;
  page = λ no. absurd (true≢false (sym (ap reads_input c.in-Series.is) ∙ no));
  device = c.run_series_text.ensures.device;
  kept = λ once. absurd (true≢false (sym once ∙ ap writes_at_once c.in-Series.is));
  unread = λ no. absurd (true≢false (sym (ap reads_input c.in-Series.is) ∙ no));
}

pub returns-in-Explain-Text : goal.returns-in-Explain-Text
returns-in-Explain-Text g c = record {
  engine = λ reads. search rules;
  page = λ no. let reads : reads_input c.args.request ≡ true = search rules in absurd (true≢false (sym reads ∙ no));
  device = c.explain_text.ensures.ends.device;
  kept = λ once is. c.explain_text.ensures.kept is;
  unread = λ no. let reads : reads_input c.args.request ≡ true = search rules in absurd (true≢false (sym reads ∙ no));
}

pub returns-in-Explain-Number : goal.returns-in-Explain-Number
returns-in-Explain-Number g c = record {
  engine = λ reads. let none : reads_input c.args.request ≡ false = search rules in absurd (true≢false (sym reads ∙ none));
  page = λ no text. search rules;
  device = search rules;
  kept = λ once is. c.explain_number.ensures.kept is;
  unread = λ no. refl;
}
