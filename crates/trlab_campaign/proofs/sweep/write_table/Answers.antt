use Rattle.std.proofs.Common.{false}
use Rattle.trlab_campaign.{specs.SweepOutput.IsOutputForSweep, proofs.Endings.{output_ends, kept_at_memory}}
use Rattle.trlab_campaign.proofs.WrittenBytes.{kept}
use Rattle.trlab_campaign.proofs.sweep.write_table.Goals as goal

pub returns-in-Ok-clause-ends : goal.returns-in-Ok-clause-ends
returns-in-Ok-clause-ends g c =
    let ends = rw c.deref.ensures.value at c.write_output.ensures.ends.answer in
    let made = rw c.in-Ok.is at c.requires.made in
    record {
      answer = output_ends (IsOutputForSweep c.args.sweep.now) false c.in-Ok.table.items c.write_output.result _ _ made ends;
      handed = c.write_output.ensures.ends.handed;
      device = c.write_output.ensures.ends.device;
    }

pub returns-in-Ok-clause-kept : goal.returns-in-Ok-clause-kept
returns-in-Ok-clause-kept g c = λ is. kept_at_memory false _ c.write_output.result _ _ c.write_output.ensures.ends.answer is

pub returns-in-Err-clause-kept : goal.returns-in-Err-clause-kept
returns-in-Err-clause-kept g c = λ is. kept _
