use Rattle.std.proofs.Common.{◌≤◌, arith, length, append-nil, le-ltb, take_all}
use Rattle.trlab_lines.specs.declared.page.TheConstants.{MAX_QUOTED}
use Rattle.trlab_lines.proofs.page.Page.quote.Goals as goal

pub returns-else-line-gt-MAX_QUOTED : goal.returns-else-line-gt-MAX_QUOTED
returns-else-line-gt-MAX_QUOTED c =
    let short : length c.args.line.now ≤ MAX_QUOTED = omega (arith, c.if-line-gt-MAX_QUOTED.false) in
    rw (take_all MAX_QUOTED c.args.line.now short, le-ltb MAX_QUOTED (length c.args.line.now) short, append-nil) c.show_all-else-line-gt-MAX_QUOTED.ensures
