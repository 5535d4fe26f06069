use Rattle.std.proofs.Common.{◌≡◌, ◌+◌, ◌++◌, ◌∷◌, [], sym, ◌∙◌, ap, inl, arith, Err}
use Rattle.std.proofs.lemmas.{Grind.common_steps, List.{length_push, Elements.All-push}}
use Rattle.std.proofs.lemmas.Result.{err_from_is_err_and}
use Rattle.trlab_code.specs.Program.{IsInRange}
use Rattle.trlab_asm.{specs.Stored.pcs, proofs.Passes.{second_next, second_fault, second_end}}
use Rattle.trlab_asm.proofs.assembly.resolve_all.Goals as goal

pub returns-in_err-instr-clause-reported : goal.returns-in_err-instr-clause-reported
returns-in_err-instr-clause-reported c =
    let value = rw c.line_draft-item.is at c.in_err-instr.ensures.value in
    let told = second_fault (pcs c.args.labels.now) c.args.drafts.now c.loop-line_draft.line_draft-index c.line_draft-item.result c.loop-line_draft.instrs.items c.in_err-instr.field-0.0 c.loop-line_draft-test.true value in
    let p = err_from_is_err_and c.from_residual.result c.from_residual.ensures.1 in
    let fault : c.from_residual.result ≡ Err c.in_err-instr.field-0.0 = p.1 ∙ ap Err p.2 in
    rw fault (inl (sym c.loop-line_draft.invariant.says ∙ told))

pub loop-line_draft-preserved : goal.loop-line_draft-preserved
loop-line_draft-preserved c =
    let value = rw c.line_draft-item.is at c.in_ok-instr.ensures.value in
    let next = second_next (pcs c.args.labels.now) c.args.drafts.now c.loop-line_draft.line_draft-index c.line_draft-item.result c.loop-line_draft.instrs.items c.in_ok-instr.instr c.loop-line_draft-test.true value in
    let pushed : c.push.new.self.items ≡ c.loop-line_draft.instrs.items ++ (c.in_ok-instr.instr ∷ []) = grind (arith, common_steps) in
    record {
      says = rw pushed (sym next ∙ c.loop-line_draft.invariant.says);
      count = rw pushed (length_push c.loop-line_draft.instrs.items c.in_ok-instr.instr ∙ ap (λ n. n + 1) c.loop-line_draft.invariant.count);
      in_range = rw pushed (All-push IsInRange c.loop-line_draft.instrs.items c.in_ok-instr.instr c.loop-line_draft.invariant.in_range c.in_ok-instr.ensures.in_range);
    }

pub returns-clause-reported : goal.returns-clause-reported
returns-clause-reported c =
    sym c.loop-line_draft.invariant.says ∙ second_end (pcs c.args.labels.now) c.args.drafts.now c.loop-line_draft.line_draft-index c.loop-line_draft.instrs.items c.loop-line_draft-test.false
