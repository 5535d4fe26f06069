use Rattle.trlab_asm.{specs.Stored.{pcs, stored_parts}, proofs.Passes.some_instrs}
use Rattle.trlab_asm.proofs.assembly.instrs_of.Goals as goal

pub returns-else-is_empty-clause-reported : goal.returns-else-is_empty-clause-reported
returns-else-is_empty-clause-reported c =
    let says = some_instrs (stored_parts c.args.parts.now) c.drafts-drafts.result.now (pcs c.labels.result.now) c.if-is_empty.ensures c.drafts-drafts.ensures.value c.labels.ensures in
    rw says c.resolve_all.ensures.reported
