use Rattle.std.proofs.Common.{ℕ, sym, ap, ◌∙◌, arith}
use Rattle.atomic_table.specs.Table.{Me}
use Rattle.trlab_segments.specs.declared.ticket_rule.TicketKnowledge.{TicketKnowledge}
use Rattle.trlab_segments.proofs.Steps.{joins, looks}
use Rattle.trlab_segments.proofs.tickets.Tickets.gather.Goals as goal

pub join_seat-requires : goal.join_seat-requires
join_seat-requires c = let d = c.args.one in let e = c.args.other in
    (c.requires.0.0, c.requires.1.0, e.no_slot, omega (arith, c.args.self.now.one_word), joins _ _ _ _ _ (omega (arith, d.some, d.passes_are)) (omega (arith, e.some, e.passes_are)))

pub load-requires : goal.load-requires
load-requires c =
    let t = c.args.self.now in
    let d = c.args.one in
    let j = c.join_seat.ensures in (
      j.0 ∙ c.requires.0.0,
      omega (arith, t.one_word),
      looks _ _ _ c.join_seat.new.seat.me (ap (λ (m : Me ℕ TicketKnowledge). m.0.plan) j.2 ∙ (c.requires.0.1 ∙ sym t.same_plan)) (let p = ap (λ (m : Me ℕ TicketKnowledge). m.0.passes) j.2 in omega (arith, d.some, d.passes_are)),
    )
