-- The output for an accepted program is that of a check.
use Rattle.std.proofs.Common.{◌≡◌, ℕ, List, Bool, false, ◌∙◌, ap, subst, sym, Result, Ok, Err, IfOk}
use Rattle.trlab_code.specs.{declared.program.Kind.Kind, Program.Program}
use Rattle.trlab_verify.specs.Verdict.{IsLongest, IsAccepted}
use Rattle.trlab_jobs.specs.Check.{Check}
use Rattle.trlab_campaign.specs.CheckOutput.{IsOutputForCheck, answer_text}

pub accepted_said : {A E : Type 0} (r : Result A E) (rejected : A → Bool) (out : A → List ℕ) (check : Check) (kind : Kind) (shown program : Program) (budget : ℕ)
    → check.program.kind ≡ kind → IsAccepted kind check.program → shown ≡ program → program ≡ check.program → IsLongest program.instrs 0 budget
    → IfOk r (λ x. (rejected x ≡ false) × (out x ≡ answer_text check.question budget shown)) → IfOk r (λ x. IsOutputForCheck check (rejected x) (out x))
accepted_said (Ok x) rejected out check kind shown program budget of_kind accepted whole same longest said =
    rw said.0 (subst (λ (k : Kind). IsAccepted k check.program) (sym of_kind) accepted, (budget, (rw same at longest, said.1 ∙ ap (λ (p : Program). answer_text check.question budget p) (whole ∙ same))))
accepted_said (Err e) rejected out check kind shown program budget of_kind accepted whole same longest said = tt
