use Rattle.std.proofs.Common.{◌≡◌, true, ℕ, List, Bor}
use Rattle.trlab_lines.specs.Lines.{all_digits}
use Rattle.trlab_asm.proofs.Shapes.{first_known, numerals_said, rest_known}
use Rattle.trlab_asm.proofs.operands.two_numerals.Goals as goal

pub returns-in-Some-clause-value : goal.returns-in-Some-clause-value
returns-in-Some-clause-value c =
    numerals_said c.args.text.now c.in-Some.first.now c.in-Some.rest.now c.numeral.result c.numeral-in-Some.result c.both.result
    c.in-Some.ensures c.numeral.ensures.value c.numeral-in-Some.ensures.value c.both.ensures

pub returns-in-Some-clause-first : goal.returns-in-Some-clause-first
returns-in-Some-clause-first c = first_known (λ (x : Bor (List ℕ)). all_digits x.now ≡ true) c.numeral.result c.numeral-in-Some.result c.both.result c.both.ensures c.numeral.ensures.digits

pub returns-in-Some-clause-second : goal.returns-in-Some-clause-second
returns-in-Some-clause-second c = rest_known (λ (x : Bor (List ℕ)). all_digits x.now ≡ true) c.numeral.result c.numeral-in-Some.result c.both.result c.both.ensures c.numeral-in-Some.ensures.digits
