use Rattle.std.proofs.Common.{◌∙◌, arith, refl, sym, ap}
use Rattle.trlab_lines.specs.Lines.{line_at}
use Rattle.trlab_lines.proofs.Places.{ended_from, line_below, line_of_none, unread_next}
use Rattle.trlab_lines.proofs.place.Place.at.Goals as goal

pub loop-line-preserved : goal.loop-line-preserved
loop-line-preserved c =
    let lines = c.in-Some.ensures.lines in (
      sym (line_below c.loop-line.ahead c.in-Some.line.now _ c.if-ahead-le1.false) ∙ (ap (line_at c.loop-line.ahead) (sym lines) ∙ c.loop-line.invariant.0),
      unread_next c.args.text.now c.loop-line.left.now c.in-Some.line.now c.in-Some.rest.now c.args.number c.loop-line.ahead c.loop-line.invariant.1 c.if-ahead-le1.false lines c.in-Some.ensures.bytes,
    )

pub returns-clause-place : goal.returns-clause-place
returns-clause-place c =
    let none = c.in_default.ensures.lines in
    record {
      same_text = refl;
      same_number = refl;
      line = sym (line_of_none c.loop-line.ahead) ∙ (ap (line_at c.loop-line.ahead) (sym none) ∙ c.loop-line.invariant.0);
      within = omega arith;
      lines_from = ended_from c.args.text.now c.loop-line.left.now c.args.number c.loop-line.ahead c.loop-line.invariant.1 none;
    }
