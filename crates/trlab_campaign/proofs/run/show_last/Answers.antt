use Rattle.trlab_campaign.proofs.run.show_last.Goals as goal

pub returns : goal.returns
returns g c =
    let seen = rw (c.has-text.ensures, c.step-text.ensures.value, c.road.ensures.value) at c.observe.ensures in
    record {
      road = rw c.road.ensures.value at c.road.ensures.run;
      wrote = c.write_step_text.ensures.wrote _ seen;
      writer = c.write_step_text.ensures.writer;
    }
