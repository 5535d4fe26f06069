-- Laws of explanations.
use Rattle.std.specs.Prelude.{ℕ, List}
use Rattle.trlab_jobs.specs.declared.subject.Subject.{Subject}
use Rattle.trlab_explain.specs.{Explanations.IsHeadAs, declared.explanation.Head.Head}

-- every text, read as a job, a sweep or a check, has the head of an explanation
abbrev pub EveryTextHasAHead : Type 0
EveryTextHasAHead = (subject : Subject) (text : List ℕ)
    → (head : Head) × IsHeadAs subject text head
