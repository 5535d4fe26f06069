use Rattle.trlab_book.specs.HeldLeases.{Idle, Over}
use Rattle.trlab_book.proofs.GoingOn.{ended_after, goes_both, one_ended, rests}
use Rattle.trlab_book.proofs.running.Runner.take_leases.Goals as goal

pub loop-init : goal.loop-init
loop-init g c = (tt, tt, rests Idle c.args.desk.now)

pub returns-in-Some-take_free : goal.returns-in-Some-take_free
returns-in-Some-take_free g c =
    one_ended c.in-Some-take_free.ended c.args.desk.now c.take_free.new.desk
    (ended_after Idle Idle Over 1 c.in-Some-take_free.ended c.args.desk.now c.loop.desk c.take_free.new.desk c.loop.invariant.2 c.in-Some-take_free.ensures)

pub loop-preserved : goal.loop-preserved
loop-preserved g c = (tt, tt, goes_both Idle Idle Idle c.args.desk.now c.loop.desk c.take_free.new.desk c.loop.invariant.2 c.in_default.ensures)
