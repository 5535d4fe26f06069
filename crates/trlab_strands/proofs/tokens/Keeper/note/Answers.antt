use Rattle.std.proofs.Common.{sym, refl, ◌∙◌, arith}
use mathlib.Core.Option.{some}
use Rattle.trlab_strands.proofs.Steps.{apart, joins, met_list, no_slot, noting, writes}
use Rattle.trlab_strands.proofs.tokens.Keeper.note.Goals as goal

pub split_seat-list-requires : goal.split_seat-list-requires
split_seat-list-requires g c = let k = c.args.self.now in let t = c.args.strands.now in
    (k.at ∙ sym t.at, omega (arith, t.one_word), apart k.seat.id k.seat.me.0)

pub join_seat-requires : goal.join_seat-requires
join_seat-requires g c = let s = c.args.strand.now in let t = c.args.strands.now in let list = c.split_seat-list in
    (s.at ∙ sym t.at, list.ensures.3 ∙ (c.args.self.now.at ∙ sym t.at), no_slot _ _ list.ensures.4, omega (arith, t.one_word), joins s.seat.id s.seat.me.0 list.result.id list.result.me.0 s.some s.no_list)

pub compare_exchange_with-requires : goal.compare_exchange_with-requires
compare_exchange_with-requires g c =
    let s = c.args.strand.now in
    let k = c.args.self.now in
    let t = c.args.strands.now in
    let met = met_list s.seat.me.0 k.seat.me.0 s.seat.me.1 c.split_seat-list.result.me c.join_seat.new.seat.me k.has_list s.some c.split_seat-list.ensures.4 c.join_seat.ensures.2 in
    (c.join_seat.ensures.0 ∙ (s.at ∙ sym t.at), omega (arith, t.one_word), writes _ _ c.join_seat.new.seat.me c.args.event.now met.0 met.1)

pub split_seat-requires : goal.split_seat-requires
split_seat-requires g c = let t = c.args.strands.now in
    (c.compare_exchange_with.ensures.0 ∙ (c.join_seat.ensures.0 ∙ (c.args.strand.now.at ∙ sym t.at)), omega (arith, t.one_word), apart c.compare_exchange_with.new.seat.id c.compare_exchange_with.new.seat.me.0)

pub invariant_of-strand : goal.invariant_of-strand
invariant_of-strand g c =
    let s = c.args.strand.now in
    let k = c.args.self.now in
    let n = noting s.seat.me.0 k.seat.me.0 s.seat.me.1 c.args.event.now c.split_seat-list.result.me c.join_seat.new.seat.me c.compare_exchange_with.new.seat.me c.split_seat.new.seat.me c.split_seat.result.me k.has_list s.no_slot s.some
    c.split_seat-list.ensures.4 c.join_seat.ensures.2 (c.compare_exchange_with.ensures.2 c.args.event.now (refl {a = some c.args.event.now})) c.split_seat.ensures.2 c.split_seat.ensures.4 in
    record {
      at = c.split_seat.ensures.0 ∙ (c.compare_exchange_with.ensures.0 ∙ (c.join_seat.ensures.0 ∙ s.at));
      no_slot = n.left_slot;
      no_list = n.left_list;
      some = n.left_some;
    }

pub invariant_of-self : goal.invariant_of-self
invariant_of-self g c =
    let s = c.args.strand.now in
    let k = c.args.self.now in
    let n = noting s.seat.me.0 k.seat.me.0 s.seat.me.1 c.args.event.now c.split_seat-list.result.me c.join_seat.new.seat.me c.compare_exchange_with.new.seat.me c.split_seat.new.seat.me c.split_seat.result.me k.has_list s.no_slot s.some
    c.split_seat-list.ensures.4 c.join_seat.ensures.2 (c.compare_exchange_with.ensures.2 c.args.event.now (refl {a = some c.args.event.now})) c.split_seat.ensures.2 c.split_seat.ensures.4 in
    record {
      at = c.split_seat.ensures.3 ∙ (c.compare_exchange_with.ensures.0 ∙ (c.join_seat.ensures.0 ∙ s.at));
      no_slot = n.right_slot;
      has_list = n.right_list;
    }

pub returns-clause-strand : goal.returns-clause-strand
returns-clause-strand g c =
    let s = c.args.strand.now in
    let k = c.args.self.now in
    let n = noting s.seat.me.0 k.seat.me.0 s.seat.me.1 c.args.event.now c.split_seat-list.result.me c.join_seat.new.seat.me c.compare_exchange_with.new.seat.me c.split_seat.new.seat.me c.split_seat.result.me k.has_list s.no_slot s.some
    c.split_seat-list.ensures.4 c.join_seat.ensures.2 (c.compare_exchange_with.ensures.2 c.args.event.now (refl {a = some c.args.event.now})) c.split_seat.ensures.2 c.split_seat.ensures.4 in
    (n.parts, n.clock, n.events, n.next)
