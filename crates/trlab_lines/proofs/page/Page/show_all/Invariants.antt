use Rattle.std.proofs.Common.{◌≡◌, ◌++◌, drop}
use Rattle.trlab_lines.specs.Plain.{all_shown}
use Rattle.trlab_lines.proofs.page.Page.show_all.Given as goal

abbrev pub invariant-loop-byte : goal.invariant-loop-byte
invariant-loop-byte l = l.self ++ all_shown (drop l.byte-index l.bytes) ≡ l.fn.self ++ all_shown l.bytes
