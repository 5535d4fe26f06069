use Rattle.std.proofs.Common.{◌≡◌, sym, ◌∙◌, subst}
use Rattle.trlab_code.specs.declared.program.Kind.{Kind, TheVariants.{Motion as OfMotion, Change as OfChange}}
use Rattle.trlab_verify.specs.Verified.{IsFaultOf}
use Rattle.trlab_jobs.specs.Check.{check_of}
use Rattle.trlab_campaign.proofs.Verdicts.{accepted_said}
use Rattle.trlab_campaign.proofs.check.verdict_of.Goals as goal

pub returns-in-Ok : goal.returns-in-Ok
returns-in-Ok c = rw (← c.check.view_is)
    (accepted_said c.accepted_verdict.result (λ verdict. verdict.is_rejection) (λ verdict. verdict.text.items) (check_of c.check.inside.question c.check.inside.code) OfMotion c.code.result.now c.in-Ok.motion.program c.budget.result
    (sym c.kind.ensures ∙ c.in-Motion.is) c.in-Ok.ensures.accepted c.code.ensures.value c.in-Ok.ensures.same c.budget.ensures.longest c.accepted_verdict.ensures)

pub returns-in-Ok-verify_change : goal.returns-in-Ok-verify_change
returns-in-Ok-verify_change c = rw (← c.check.view_is)
    (accepted_said c.accepted_verdict-in-Ok-verify_change.result (λ verdict. verdict.is_rejection) (λ verdict. verdict.text.items) (check_of c.check.inside.question c.check.inside.code) OfChange
    c.code-in-Ok-verify_change.result.now c.in-Ok-verify_change.change.program c.budget-in-Ok-verify_change.result (sym c.kind.ensures ∙ c.in-Change.is) c.in-Ok-verify_change.ensures.accepted
    c.code-in-Ok-verify_change.ensures.value c.in-Ok-verify_change.ensures.same c.budget-in-Ok-verify_change.ensures.longest c.accepted_verdict-in-Ok-verify_change.ensures)

pub returns-in-Motion : goal.returns-in-Motion
returns-in-Motion c =
    let kind : c.check.inside.code.kind ≡ OfMotion = sym c.kind.ensures ∙ c.in-Motion.is in
    let tells = subst (λ (k : Kind). IsFaultOf k c.check.inside.code c.in-Err.fault) (sym kind) c.in-Err.ensures.refused in
    rw (← c.check.view_is) (c.rejected_verdict.ensures (check_of c.check.inside.question c.check.inside.code) tells)

pub returns : goal.returns
returns c =
    let kind : c.check.inside.code.kind ≡ OfChange = sym c.kind.ensures ∙ c.in-Change.is in
    let tells = subst (λ (k : Kind). IsFaultOf k c.check.inside.code c.in-Err-verify_change.fault) (sym kind) c.in-Err-verify_change.ensures.refused in
    rw (← c.check.view_is) (c.rejected_verdict-in-Err-verify_change.ensures (check_of c.check.inside.question c.check.inside.code) tells)
