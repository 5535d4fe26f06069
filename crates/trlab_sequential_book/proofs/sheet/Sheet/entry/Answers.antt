use Rattle.std.proofs.Common.{ℕ, ap, sym, ◌∙◌, Option, Some}
use Rattle.trlab_rules.specs.Rules.{Programs}
use Rattle.trlab_sequential_book.proofs.sheet.Sheet.entry.Goals as goal

pub returns : goal.returns
returns c =
    let kept : ℕ → Programs → Option (ℕ × Programs) = λ from rule. Some (from, rule) in
    c.shared_entry-from.ensures ∙ ap (kept c.shared_entry-from.result.0) (sym c.get.ensures)
