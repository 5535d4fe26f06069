use Rattle.std.proofs.{Common.{rules, ◌≡◌, ◌∙◌, sym, ap}, lemmas.Slice.Eq.slice_eq-Decides}
use denote.Enum.Bare.{same_true}
use Rattle.trlab_code.{specs.contracts.program.Kind.the_type as kinds, proofs.Injective.same_decides}
use Rattle.trlab_verify.proofs.Equals.{program_same}
use Rattle.trlab_verify.proofs.program.are_same.Goals as goal

pub returns-then-eq : goal.returns-then-eq
returns-then-eq c =
    let d = slice_eq-Decides same_decides c.instrs.result.now c.instrs-then-eq.result.now c.eq-then-eq.result c.eq-then-eq.ensures in
    let kinds_are : c.kind.result ≡ c.kind-2.result = same_true kinds (search rules) _ _ (sym c.eq.ensures ∙ c.if-eq.true) in (
      λ h. program_same c.args.code.now c.args.other.now (sym c.kind.ensures ∙ (kinds_are ∙ c.kind-2.ensures)) (sym c.instrs.ensures.value ∙ (d.0 h ∙ c.instrs-then-eq.ensures.value)),
      λ e. d.1 (c.instrs.ensures.value ∙ (ap (λ p. p.instrs) e ∙ sym c.instrs-then-eq.ensures.value)),
    )
