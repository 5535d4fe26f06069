use Rattle.std.proofs.Common.{refl, OnOk, subst, sym}
use Rattle.trlab_segments.specs.{Drawers.ticket_count, Knowledge.IsPermutation}
use Rattle.trlab_segments.proofs.parts.collect.Goals.{in-Ok, in-Err}
use Rattle.trlab_segments.proofs.parts.collect.Goals as goal

pub line_up-requires : goal.line_up-requires
line_up-requires g c = record {
  right = c.requires.parts.right;
  whole = subst (λ numbers. IsPermutation numbers (ticket_count c.args.tickets)) (sym c.requires.parts.tickets)
      (c.in-Ok.ensures.ok.0 refl).1;
}

pub returns : goal.returns
returns g c =
    let phase = c.args.phase.now in
    elim c.match-finish.branch [
      | in-Ok w ↦ rw (w.result-is, w.answers-is) (subst
          (λ last. OnOk w.line_up.result (g.P.Asked.answers phase.program.now phase.dice.now phase.road.now 0 last w.line_up.new.answers.items))
          c.requires.cut w.line_up.ensures)
      | in-Err w ↦ rw (w.result-is, w.answers-is) w.ask_whole.ensures
    ]
