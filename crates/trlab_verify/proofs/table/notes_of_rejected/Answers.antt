use Rattle.trlab_verify.proofs.table.notes_of_rejected.Goals as goal

pub returns : goal.returns
returns c = rw (c.kind-kind.ensures, c.instrs-instrs.ensures.value) at c.judge_rejected.ensures
