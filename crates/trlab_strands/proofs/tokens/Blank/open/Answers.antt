use Rattle.std.proofs.Common.{arith}
use Rattle.trlab_strands.proofs.Steps.{apart}
use Rattle.trlab_strands.proofs.tokens.Blank.open.Goals as goal

pub split_seat-list-requires : goal.split_seat-list-requires
split_seat-list-requires g c = let o = c.args.self in (o.from, omega (arith, o.one_word), apart o.seat.id o.seat.me.0)
