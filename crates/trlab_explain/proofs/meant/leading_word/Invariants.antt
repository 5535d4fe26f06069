use Rattle.std.proofs.Common.{◌≡◌, length}
use Rattle.trlab_lines.specs.Lines.{lines_of}
use Rattle.trlab_explain.specs.Explanations.{leading_word}
use Rattle.trlab_explain.proofs.meant.leading_word.Given as goal

abbrev pub invariant-loop-line : goal.invariant-loop-line
invariant-loop-line l = leading_word (lines_of l.left) ≡ leading_word (lines_of l.text)

abbrev pub decreases-loop-line : goal.decreases-loop-line
decreases-loop-line l = length l.left
