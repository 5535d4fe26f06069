use Rattle.std.proofs.Common.{sym, arith}
use Rattle.trlab_texts.proofs.Parts.{searched_none, searched_more, part_found, part_missing}
use Rattle.trlab_texts.proofs.rest.Rest.part.Goals as goal

pub loop-line-init : goal.loop-line-init
loop-line-init c = record { searched = searched_none _; room = omega arith }

pub returns-then-eq : goal.returns-then-eq
returns-then-eq c = rw (← c.self.view_is)
    (part_found _ _ _ _ _ c.self.inside.number _ c.loop-line.invariant.searched c.split_at.ensures.front c.in-Some.ensures.lines c.in-Some.ensures.shorter (sym (rw c.as_slice.ensures at c.if-eq.ensures)))

pub loop-line-preserved : goal.loop-line-preserved
loop-line-preserved c = record {
  searched = searched_more _ _ _ _ _ c.loop-line.invariant.searched c.in-Some.ensures.lines c.in-Some.ensures.bytes c.in-Some.ensures.no_end c.in-Some.ensures.shorter (sym (rw c.as_slice.ensures at c.if-eq.ensures));
  room = omega (arith, c.loop-line.invariant.room, c.in-Some.ensures.shorter);
}

pub returns : goal.returns
returns c = rw (← c.self.view_is, c.no_line.ensures) (part_missing _ _ c.self.inside.number _ c.loop-line.invariant.searched c.in_default.ensures.lines)
