use Rattle.std.proofs.{Common.{◌<◌, ap, length, sym, ◌∙◌, Some}, lemmas.Option.slice_get-get_or}
use Rattle.trlab_sequential_book.proofs.sheet.Sheet.shared_entry.Goals as goal

pub returns : goal.returns
returns c =
    let here : c.args.index < length c.self.inside.entries.items = rw c.self.view_is c.requires in
    rw (← c.self.view_is) (slice_get-get_or c.self.inside.entries.items c.args.index c.index-entry.result.now here ∙ sym (ap Some c.index-entry.ensures))
