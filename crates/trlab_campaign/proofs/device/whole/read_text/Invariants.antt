use Rattle.std.{proofs.Common.{◌≡◌, ◌≤◌, ◌+◌, ◌-◌, ◌++◌, false, vec_len}, specs.Io.KnownBytes.Consumes}
use Rattle.trlab_bounds.specs.declared.texts.TheConstants.{TEXT_LIMIT}
use Rattle.trlab_campaign.proofs.device.whole.read_text.Given as goal

abbrev pub invariant-loop-piece : goal.invariant-loop-piece
invariant-loop-piece g l = record {
  read : Consumes (g.S.Source.left l.fn.reader) (g.S.Source.left l.reader) l.text.items;
  small : vec_len l.text ≤ TEXT_LIMIT + 1;
  given : g.S.Source.given l.reader ≡ g.S.Source.given l.fn.reader ++ l.text.items;
  works : g.S.Source.failed l.reader ≡ false;
}

abbrev pub decreases-loop-piece : goal.decreases-loop-piece
decreases-loop-piece g l = TEXT_LIMIT + 1 - vec_len l.text
