use Rattle.std.proofs.Common.{false, refl}
use Rattle.trlab_campaign.proofs.Endings.{kept_at_memory, output_ends}
use Rattle.trlab_command_line.specs.Ends.{IsHelp}
use Rattle.trlab_command_line.proofs.printing.write_help.Goals as goal

pub returns-in-Ok-clause-ends : goal.returns-in-Ok-clause-ends
returns-in-Ok-clause-ends g c = record {
  answer = output_ends IsHelp false _ c.write_output.result _ _ refl c.write_output.ensures.ends.answer;
  handed = c.write_output.ensures.ends.handed;
  device = c.write_output.ensures.ends.device;
}

pub returns-in-Ok-clause-kept : goal.returns-in-Ok-clause-kept
returns-in-Ok-clause-kept g c = λ is. kept_at_memory false _ c.write_output.result _ _ c.write_output.ensures.ends.answer is
