use Rattle.std.proofs.Common.{rules}
use Rattle.trlab_command_line.proofs.printing.print_help_or_error.Goals as goal

pub returns-in-DisplayHelp : goal.returns-in-DisplayHelp
returns-in-DisplayHelp g c = record {
  rejected = search rules;
  printed = search rules;
  device = search rules;
  kept = search rules;
  handed = search rules;
  silent = search rules;
}

pub returns-in-OutOfMemory : goal.returns-in-OutOfMemory
returns-in-OutOfMemory g c = record {
  rejected = search rules;
  printed = search rules;
  device = search rules;
  kept = search rules;
  handed = search rules;
  silent = search rules;
}

pub returns-in_default : goal.returns-in_default
returns-in_default g c = record {
  rejected = search rules;
  printed = search rules;
  device = search rules;
  kept = search rules;
  handed = search rules;
  silent = search rules;
}
