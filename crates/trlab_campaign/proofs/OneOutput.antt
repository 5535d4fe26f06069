-- A job text has only one output, for any choice of the steps that are shown.
use Rattle.std.proofs.Common.{◌≡◌, ℕ, ◌+◌, List, sym, ◌∙◌, ap, subst, Bool, arith, Result, Ok, Err}
use Rattle.trlab_step.proofs.RunLaws.{road_at_is_one}
use Rattle.trlab_texts.specs.Reading.{LocatedFault}
use Rattle.trlab_jobs.{specs.Job.{Job, seed_of, sheet_of}, proofs.OneText.one_thing}
use Rattle.trlab_campaign.specs.Output.{IsOutputForJob, shown_text, IsOutputForResult}
use Rattle.trlab_campaign.{specs.Laws.ShownHasAtMostOneOutput, proofs.Lines.pieces_agree}

output_one : (shown : ℕ → Bool) (says : Result Job LocatedFault) (rejected also : Bool) (out other : List ℕ) → IsOutputForResult (IsOutputForJob shown) says rejected out
    → IsOutputForResult (IsOutputForJob shown) says also other → (rejected ≡ also) × (out ≡ other)
output_one shown (Ok said) rejected also out other p q =
    let a = p.1.1 in
    let b = q.1.1 in
    let agree = pieces_agree (λ s. shown_text shown s (p.1.0 s)) (λ s. shown_text shown s (q.1.0 s)) 0 (said.steps + 1)
    (λ s below. ap (shown_text shown s) (road_at_is_one (seed_of said) (sheet_of said) s (p.1.0 s) (q.1.0 s) (a.road_at s (omega arith)) (b.road_at s (omega arith)))) in
    (p.0 ∙ sym q.0, a.pictures ∙ agree ∙ sym b.pictures)
output_one shown (Err fault) rejected also out other p q = (p.0 ∙ sym q.0, p.1 ∙ sym q.1)

pub one_output : ShownHasAtMostOneOutput
one_output shown text rejected also out other p q =
    let same = one_thing text p.0 q.0 p.1.0 q.1.0 in
    output_one shown q.0 rejected also out other (subst (λ (says : Result Job LocatedFault). IsOutputForResult (IsOutputForJob shown) says rejected out) same p.1.1) q.1.1
