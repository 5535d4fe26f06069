use Rattle.std.proofs.Common.{◌≡◌, ◌∷◌, [], ◌++◌, ◌∙◌, refl, decimal, codes, string_bytes}
use Rattle.trlab_asm.specs.Canonical.{canonical_text}
use Rattle.trlab_campaign.proofs.Lines.{line_then}
use Rattle.trlab_campaign.proofs.check.accepted_text.Goals as goal

pub returns : goal.returns
returns c =
    let line : string_bytes c.in_ok-line.line ≡ codes "accepted budget " ++ (decimal c.args.budget ++ (10 ∷ [])) = c.in_ok-line.ensures.ok in
    let first : c.into_bytes-text.result.items ≡ string_bytes c.in_ok-line.line = rw c.into_bytes-text.ensures.value refl in
    let added = rw (c.deref.ensures.value, c.in_ok-program.ensures.canonical) at c.in_ok-extend_from_slice.ensures.items in
    added ∙ line_then (codes "accepted budget ") (decimal c.args.budget) (string_bytes c.in_ok-line.line) [] c.into_bytes-text.result.items (canonical_text c.args.code.now.instrs) line first
