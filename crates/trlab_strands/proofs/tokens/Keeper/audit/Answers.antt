use Rattle.std.proofs.Common.{refl, sym, ◌∙◌, arith}
use Rattle.trlab_strands.proofs.Steps.{apart, joins, learns_met, looks, no_slot}
use Rattle.trlab_strands.proofs.tokens.Keeper.audit.Goals as goal

pub split_seat-list-requires : goal.split_seat-list-requires
split_seat-list-requires g c = let k = c.args.self.now in let t = c.args.strands.now in
    (k.at ∙ sym t.at, omega (arith, t.one_word), apart k.seat.id k.seat.me.0)

pub join_seat-requires : goal.join_seat-requires
join_seat-requires g c = let s = c.args.strand.now in let t = c.args.strands.now in let list = c.split_seat-list in
    (s.at ∙ sym t.at, list.ensures.3 ∙ (c.args.self.now.at ∙ sym t.at), no_slot _ _ list.ensures.4, omega (arith, t.one_word), joins s.seat.id s.seat.me.0 list.result.id list.result.me.0 s.some s.no_list)

pub load-requires : goal.load-requires
load-requires g c = let t = c.args.strands.now in
    (c.join_seat.ensures.0 ∙ (c.args.strand.now.at ∙ sym t.at), omega (arith, t.one_word), looks _ _ c.join_seat.new.seat.me)

pub split_seat-requires : goal.split_seat-requires
split_seat-requires g c = let t = c.args.strands.now in
    (c.load.ensures.0 ∙ (c.join_seat.ensures.0 ∙ (c.args.strand.now.at ∙ sym t.at)), omega (arith, t.one_word), apart c.load.new.seat.id c.load.new.seat.me.0)

pub returns-clause-in_list : goal.returns-clause-in_list
returns-clause-in_list g c =
    let s = c.args.strand.now in
    let k = c.args.self.now in
    let learnt = learns_met s.seat.me.0 k.seat.me.0 s.seat.me.1 c.split_seat-list.result.me c.join_seat.new.seat.me k.has_list c.split_seat-list.ensures.4 c.join_seat.ensures.2 c.load.ensures.2.1 in
    learnt.in_list refl

pub returns-clause-most : goal.returns-clause-most
returns-clause-most g c =
    let s = c.args.strand.now in
    let k = c.args.self.now in
    let learnt = learns_met s.seat.me.0 k.seat.me.0 s.seat.me.1 c.split_seat-list.result.me c.join_seat.new.seat.me k.has_list c.split_seat-list.ensures.4 c.join_seat.ensures.2 c.load.ensures.2.1 in
    learnt.most refl

pub returns-clause-all : goal.returns-clause-all
returns-clause-all g c =
    let s = c.args.strand.now in
    let k = c.args.self.now in
    let learnt = learns_met s.seat.me.0 k.seat.me.0 s.seat.me.1 c.split_seat-list.result.me c.join_seat.new.seat.me k.has_list c.split_seat-list.ensures.4 c.join_seat.ensures.2 c.load.ensures.2.1 in
    λ long. record { count = long; in_list = learnt.in_list refl; once = learnt.once refl long }
