use Rattle.std.{proofs.Common.{◌≡◌, take}, specs.Str.Parse.digits_value}
use Rattle.trlab_lines.proofs.lines.digits_value.Given as goal

abbrev pub invariant-loop-digit : goal.invariant-loop-digit
invariant-loop-digit l = l.value ≡ digits_value 10 (take l.digit-index l.digits)
