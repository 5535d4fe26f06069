use Rattle.std.proofs.Common.{arith, rules}
use Rattle.trlab_segments.proofs.Steps.{splits}
use Rattle.trlab_segments.proofs.tickets.Tickets.split.Goals as goal

pub split_seat-seat-requires : goal.split_seat-seat-requires
split_seat-seat-requires c = let d = c.args.drawer.now in (c.requires.from.0, omega (arith, c.args.self.now.one_word), splits _ _ _ (omega (arith, c.requires.more, d.passes_are)))

pub invariant_of-drawer : goal.invariant_of-drawer
invariant_of-drawer c = search rules
