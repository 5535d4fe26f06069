use Rattle.std.proofs.Common.{◌∙◌}
use Rattle.trlab_campaign.proofs.NoteTables.{next_marked}
use Rattle.trlab_campaign.proofs.note_lines.push_registers.Goals as goal

pub loop-i-preserved : goal.loop-i-preserved
loop-i-preserved c =
    next_marked c.args.note.now c.loop-i.i c.number.result _ c.loop-i.out.items c.push_mark.new.out.items c.loop-i-test.true c.number.ensures.value c.in_ok-push_mark.ensures
    ∙ c.loop-i.invariant
