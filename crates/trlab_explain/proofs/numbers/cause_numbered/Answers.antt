use Rattle.std.proofs.Common.{◌∙◌, ap, sym, is_some, arith}
use Rattle.trlab_explain.proofs.Known.{listed_is_known, other_is_unknown}
use Rattle.trlab_explain.proofs.numbers.cause_numbered.Goals as goal

pub returns-in-Some-clause-known : goal.returns-in-Some-clause-known
returns-in-Some-clause-known c = sym (listed_is_known c.args.number (ap is_some (sym c.cause_in_list.ensures ∙ c.in-Some.is)))

pub returns-in_err-checked_sub-clause-known : goal.returns-in_err-checked_sub-clause-known
returns-in_err-checked_sub-clause-known c =
    let few = c.in_err-checked_sub.ensures in
    ap is_some c.from_residual.ensures ∙ sym (other_is_unknown c.args.number (ap is_some (sym c.cause_in_list.ensures ∙ c.in_default.is)) (λ reason is both. few (omega (arith, is))))
