use Rattle.std.proofs.Common.{sym, ◌∙◌, arith}
use Rattle.trlab_segments.proofs.Steps.{draws}
use Rattle.trlab_segments.proofs.tickets.Tickets.draw.Goals as goal

pub fetch_add-found-requires : goal.fetch_add-found-requires
fetch_add-found-requires c =
    let t = c.args.self.now in
    let d = c.args.drawer.now in (
      c.requires.0,
      omega (arith, t.one_word),
      draws _ _ _ d.seat.me (c.requires.1 ∙ sym t.same_plan) (d.ended_is ∙ c.if-drawer.false) (omega (arith, d.some, d.passes_are)),
    )
