use Rattle.std.proofs.Common.{◌≡◌, ◌≤◌, ◌+◌, length}
use Rattle.trlab_lines.specs.Lines.{lines_of}
use Rattle.trlab_asm.specs.{Stored.stored_parts, Assembly.{no_parts, first_pass}}
use Rattle.trlab_asm.proofs.assembly.read_parts.Given as goal

abbrev pub invariant-loop-line : goal.invariant-loop-line
invariant-loop-line l = record {
  says : first_pass (stored_parts l.parts) l.number (lines_of l.left) ≡ first_pass no_parts 1 (lines_of l.fn.text);
  number : l.number + length l.left ≤ 1 + length l.fn.text;
}

abbrev pub decreases-loop-line : goal.decreases-loop-line
decreases-loop-line l = length l.left
