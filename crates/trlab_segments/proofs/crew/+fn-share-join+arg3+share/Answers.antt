use Rattle.std.proofs.Common.{arith}
use Rattle.trlab_segments.proofs.Joining.{told_parts}
use Rattle.trlab_segments.proofs.crew.+fn-share-join+arg3+share.Goals as goal

pub join+arg3-returns : goal.join+arg3-returns
join+arg3-returns g t c = c.share.ensures

pub fn::share::join+arg3+FnOnce::call_once-returns :
    goal.fn::share::join+arg3+FnOnce::call_once-returns
fn::share::join+arg3+FnOnce::call_once-returns g t c = c.join+arg3.ensures

pub returns-then-worker-eq0 : goal.returns-then-worker-eq0
returns-then-worker-eq0 g t c = let done = c.work-parts.ensures in (done.from, done.passes, done.parts)

pub returns : goal.returns
returns g t c =
    let theirs = c.join-theirs.ensures.first in
    let mine = c.join-theirs.ensures.second in
    let gathered = c.gather.ensures in (
      gathered.from,
      omega (arith, gathered.passes, theirs.1, mine.1, c.split-theirs.ensures.passes),
      told_parts _ c.args.tickets.now _ _ _ _ _ _ theirs.2 mine.2 c.join_parts.ensures
          (record { from = gathered.from; tickets = gathered.tickets; ended = gathered.ended }),
    )
