use Rattle.std.proofs.Common.{sym, ◌∙◌, arith}
use Rattle.trlab_strands.proofs.Steps.{splits}
use Rattle.trlab_strands.proofs.tokens.Strands.split.Goals as goal

pub split_seat-seat-requires : goal.split_seat-seat-requires
split_seat-seat-requires g c = let s = c.args.strand.now in let t = c.args.self.now in
    (s.at ∙ sym t.at, omega (arith, t.one_word), splits s.seat.id s.seat.me.0 c.requires)
