use Rattle.std.specs.Prelude.{List, Result, Ok, Err, IfOk}
use Rattle.trlab_code.specs.{declared.program.Kind.Kind, Program.Program}
use Rattle.trlab_notes.specs.Notes.{Note}
use Rattle.trlab_verify.specs.{Tables.{Checks, AreVerdictNotes, table_of}, Verdict.IsAccepted}
use Rattle.trlab_verify.proofs.VerdictChecks.{verdict_notes_check}
use Rattle.trlab_verify.proofs.table.notes.Goals as goal

-- the verdict's notes of an accepted program check
checks_too : {A E : Type 0} (table : A → List Note) (kind : Kind) (program : Program) (r : Result A E) →
    IfOk r (λ a. IsAccepted kind program) → IfOk r (λ a. AreVerdictNotes kind program (table a)) → IfOk r (λ a. Checks kind program (table a))
checks_too table kind program (Ok a) accepted best = verdict_notes_check kind program accepted (table a) best
checks_too table kind program (Err e) accepted best = tt

pub returns-clause-refused : goal.returns-clause-refused
returns-clause-refused c = rw (c.kind-kind.ensures, c.instrs-instrs.ensures.value) at c.judge_notes.ensures.refused

pub returns-clause-checks : goal.returns-clause-checks
returns-clause-checks c =
    let accepted = rw (c.kind-kind.ensures, c.instrs-instrs.ensures.value) at c.judge_notes.ensures.accepted in
    let best = rw (c.kind-kind.ensures, c.instrs-instrs.ensures.value) at c.judge_notes.ensures.best in
    checks_too (λ notes. table_of c.args.code.now.kind notes.items) c.args.code.now.kind c.args.code.now c.judge_notes.result accepted best

pub returns-clause-accepted : goal.returns-clause-accepted
returns-clause-accepted c = rw (c.kind-kind.ensures, c.instrs-instrs.ensures.value) at c.judge_notes.ensures.accepted

pub returns-clause-best : goal.returns-clause-best
returns-clause-best c = rw (c.kind-kind.ensures, c.instrs-instrs.ensures.value) at c.judge_notes.ensures.best
