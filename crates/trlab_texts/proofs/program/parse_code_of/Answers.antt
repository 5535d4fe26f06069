use Rattle.std.proofs.Common.{rules, ◌≡◌, ◌≢◌, ◌∙◌, sym, true, false}
use denote.Enum.Bare.{same_true, true_same}
use Rattle.trlab_code.specs.contracts.program.Kind.{the_type as kinds}
use Rattle.trlab_texts.proofs.Programs.{code_of_kind, code_of_other, code_of_none}
use Rattle.trlab_texts.proofs.program.parse_code_of.Goals as goal

pub returns-then-eq : goal.returns-then-eq
returns-then-eq c =
    let same : c.kind.result ≡ c.args.kind = same_true kinds (search rules) _ _ (sym c.eq.ensures ∙ c.if-eq.true) in
    code_of_kind c.args.kind c.args.line.now c.in-Ok.code (rw c.in-Ok.is at c.in_ok-code.ensures) (sym c.kind.ensures ∙ same)

pub returns-in-Ok : goal.returns-in-Ok
returns-in-Ok c =
    let other : c.kind.result ≢ c.args.kind = λ same. let clash : true ≡ false = sym (true_same kinds _ _ same) ∙ (sym c.eq.ensures ∙ c.if-eq.false) in cc in
    rw c.bare.ensures (code_of_other c.args.kind c.args.line.now c.in-Ok.code (rw c.in-Ok.is at c.in_ok-code.ensures) (λ is. other (c.kind.ensures ∙ is)))

pub returns : goal.returns
returns c = code_of_none c.args.kind c.args.line.now c.in-Err.objection (rw c.in-Err.is at c.in_ok-code.ensures)
