use Rattle.std.proofs.Common.{ap}
use Rattle.trlab_lines.specs.Lines.{split_around}
use Rattle.trlab_lines.proofs.lines.cut.Goals as goal

pub returns : goal.returns
returns c = rw (c.split_at.ensures.front, c.split_at-2.ensures.back) (ap (split_around c.args.text.now) c.in_ok-i.ensures.value)
