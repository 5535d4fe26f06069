-- A check text has only one output.
use Rattle.std.proofs.Common.{◌≡◌, ℕ, List, refl, sym, ◌∙◌, ap, subst, Bool, true, false, Result, Ok, Err}
use Rattle.trlab_jobs.{specs.Check.Check, proofs.OneCheck.one_thing}
use Rattle.trlab_texts.specs.Reading.{LocatedFault}
use Rattle.trlab_texts.proofs.OneProgram.{one_longest, not_refused, refused_at_one, refused_one}
use Rattle.trlab_campaign.specs.CheckOutput.{answer_text, rejected_line, IsOutputForCheck, IsCheckOutput}
use Rattle.trlab_campaign.specs.{Output.IsOutputForResult, Laws.HasAtMostOneOutput}

verdict_one : (check : Check) (rejected also : Bool) (out other : List ℕ) → IsOutputForCheck check rejected out → IsOutputForCheck check also other
    → (rejected ≡ also) × (out ≡ other)
verdict_one check false false out other p q =
    (refl, p.1.1.1 ∙ ap (λ budget. answer_text check.question budget check.program) (one_longest check.program.instrs p.1.0 q.1.0 p.1.1.0 q.1.1.0) ∙ sym q.1.1.1)
verdict_one check false true out other p q = absurd (not_refused check.program.kind check.program q.0 q.1 p.0 q.2.0)
verdict_one check true false out other p q = absurd (not_refused check.program.kind check.program p.0 p.1 q.0 p.2.0)
verdict_one check true true out other p q =
    let at = refused_at_one check.program.kind check.program p.0 p.1 q.0 q.1 p.2.0 q.2.0 in
    let reason = refused_one check.program.kind check.program p.0 p.1 q.0 q.1 p.2.0 q.2.0 in
    (refl, p.2.1 ∙ ap (λ n. rejected_line n p.1) at ∙ ap (rejected_line q.0) reason ∙ sym q.2.1)

output_one : (says : Result Check LocatedFault) (rejected also : Bool) (out other : List ℕ) → IsOutputForResult IsOutputForCheck says rejected out → IsOutputForResult IsOutputForCheck says also other
    → (rejected ≡ also) × (out ≡ other)
output_one (Ok check) rejected also out other p q = verdict_one check rejected also out other p q
output_one (Err fault) rejected also out other p q = (p.0 ∙ sym q.0, p.1 ∙ sym q.1)

pub one_output : HasAtMostOneOutput IsCheckOutput
one_output text rejected also out other p q =
    let same = one_thing text p.0 q.0 p.1.0 q.1.0 in
    output_one q.0 rejected also out other (subst (λ (says : Result Check LocatedFault). IsOutputForResult IsOutputForCheck says rejected out) same p.1.1) q.1.1
