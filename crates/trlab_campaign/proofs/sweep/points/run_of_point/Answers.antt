use Rattle.trlab_campaign.proofs.sweep.points.run_of_point.Goals as goal

pub returns : goal.returns
returns c =
    let sheet = rw (c.in_ok-rule.ensures, c.new.ensures.items) at c.new-sheet.ensures in
    rw (← c.sweep.view_is) (rw sheet at c.new-2.ensures)
