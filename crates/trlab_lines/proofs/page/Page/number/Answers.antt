use Rattle.std.proofs.{lemmas.List.Elements.All-same, Common.{◌∙◌, decimal}}
use Rattle.trlab_lines.{specs.Plain.IsPlain, proofs.PlainDigits.plain_digits}
use Rattle.trlab_lines.proofs.page.Page.number.Goals as goal

pub put-requires : goal.put-requires
put-requires c =
    All-same IsPlain c.as_bytes.result.now (decimal c.args.number) (c.as_bytes.ensures.value ∙ c.in_ok-digits.ensures.ok) (plain_digits c.args.number c.ranges.number.fits)
