use Rattle.std.proofs.Common.{◌≡◌, ◌+◌, ◌++◌, ◌∙◌, ℕ, List, Some, option_map, sym, ap, drop, length, min}
use Rattle.std.proofs.Common.{take, Bor, take-append-drop}
use Rattle.trlab_lines.{specs.Lines.{line_at, lines_of}, proofs.Places.{behind_cut, below_end, below_line}}
use Rattle.trlab_lines.proofs.place.Place.below.Goals.{in-Some, in-None}
use Rattle.trlab_lines.proofs.place.Place.below.Goals as goal

pub returns-clause-lines : goal.returns-clause-lines
returns-clause-lines c = λ place.
    elim c.match-self.branch [
      | in-Some w ↦
          let text = c.args.self.now.text.now in
          let line = w.in-Some.line.now in
          let here : Some line ≡ line_at c.args.self.now.number (lines_of text) = ap (option_map (λ (l : Bor (List ℕ)). l.now)) (sym w.in-Some.is) ∙ place.line in
          let sum = w.end-is ∙ (w.saturating_add-end.ensures ∙ ap (λ k. min (k + 1) 18446744073709551615) w.saturating_add.ensures) in
          let cut = behind_cut text c.args.self.now.start (length line) c.split.ensures.fits in
          ap lines_of (c.split.ensures.back ∙ (ap (λ k. drop k text) sum ∙ cut))
          ∙ below_line text c.args.self.now.number c.args.self.now.start line place.lines_from here
      | in-None w ↦
          let text = c.args.self.now.text.now in
          ap lines_of (c.split.ensures.back ∙ ap (λ k. drop k text) w.end-is)
          ∙ below_end text c.args.self.now.number c.args.self.now.start place.lines_from (ap (option_map (λ (l : Bor (List ℕ)). l.now)) (sym w.in-None.is) ∙ place.line)
    ]

pub returns-clause-end : goal.returns-clause-end
returns-clause-end c =
    (take c.match-self.end c.args.self.now.text.now, sym (take-append-drop c.match-self.end c.args.self.now.text.now) ∙ ap (λ t. take c.match-self.end c.args.self.now.text.now ++ t) (sym c.split.ensures.back))
