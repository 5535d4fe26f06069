use Rattle.std.proofs.Common.{rules}
use Rattle.trlab_texts.proofs.fault.code_fault_number.Goals as goal

pub returns-in-NeedlessVersion : goal.returns-in-NeedlessVersion
returns-in-NeedlessVersion c = search rules
