use Rattle.std.proofs.Common.{◌≡◌, ◌++◌, drop}
use Rattle.trlab_lines.proofs.page.Page.put.Given as goal

abbrev pub invariant-loop-byte : goal.invariant-loop-byte
invariant-loop-byte l = l.self ++ drop l.byte-index l.text ≡ l.fn.self ++ l.text
