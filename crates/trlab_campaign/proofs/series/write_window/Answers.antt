use Rattle.trlab_campaign.proofs.series.write_window.Goals as goal

pub returns-clause-wrote : goal.returns-clause-wrote
returns-clause-wrote g c = λ roads tallies course. c.write_line.ensures.wrote _ (c.next_line-line.ensures.line roads tallies course)
