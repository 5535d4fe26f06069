-- The head for a rejected text, by its subject.
use Rattle.std.proofs.Common.{ℕ, List, Result, Ok, Err, OnOk}
use Rattle.trlab_texts.specs.declared.fault.{Cause.Cause, TextFault.TheVariants.At}
use Rattle.trlab_jobs.specs.declared.subject.Subject.{Subject, TheVariants.{Job, Sweep, Check}}
use Rattle.trlab_explain.specs.declared.explanation.Head.{Head}
use Rattle.trlab_explain.specs.Explanations.{IsRejectedWith, IsHeadAs, IsFaultHead}

pub refusal_has_head : {U E : Type 0} (r : Result U E) (subject : Subject) (text : List ℕ) (line : ℕ) (cause : Cause) (head : Head)
    → IsRejectedWith subject text (At line cause) → OnOk r (IsFaultHead text (record { line = line; cause = cause }) head)
    → OnOk r (IsHeadAs subject text head)
refusal_has_head (Ok x) Job text line cause head reads has = (Err (record { line = line; cause = cause }), reads, has)
refusal_has_head (Ok x) Sweep text line cause head reads has = (Err (record { line = line; cause = cause }), reads, has)
refusal_has_head (Ok x) Check text line cause head reads has = (Err (record { line = line; cause = cause }), reads, has)
refusal_has_head (Err x) subject text line cause head reads has = tt
