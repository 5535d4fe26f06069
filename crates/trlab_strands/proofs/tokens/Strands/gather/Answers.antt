use Rattle.std.proofs.Common.{sym, ◌∙◌, arith}
use Rattle.trlab_strands.proofs.Steps.{joins, looks}
use Rattle.trlab_strands.proofs.tokens.Strands.gather.Goals as goal

pub join_seat-requires : goal.join_seat-requires
join_seat-requires g c = let d = c.args.one in let e = c.args.other in let t = c.args.self.now in
    (d.at ∙ sym t.at, e.at ∙ sym t.at, e.no_slot, omega (arith, t.one_word), joins d.seat.id d.seat.me.0 e.seat.id e.seat.me.0 d.some d.no_list)

pub load-requires : goal.load-requires
load-requires g c = let t = c.args.self.now in
    (c.join_seat.ensures.0 ∙ (c.args.one.at ∙ sym t.at), omega (arith, t.one_word), looks _ _ c.join_seat.new.seat.me)
