use Rattle.trlab_verify.proofs.verdict.verdict.Goals as goal

pub returns : goal.returns
returns c = rw (c.kind.ensures, c.instrs-instrs.ensures.value) at c.judge.ensures.verdict
