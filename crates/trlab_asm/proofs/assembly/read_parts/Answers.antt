use Rattle.std.proofs.{Common.{◌≡◌, sym, ◌∙◌, arith, inl, Err}, lemmas.Grind.common_steps}
use Rattle.trlab_asm.specs.{Stored.stored_parts, Assembly.with_line}
use Rattle.trlab_asm.proofs.Passes.{first_next, first_fault, first_end}
use Rattle.trlab_asm.proofs.assembly.read_parts.Goals as goal

pub returns-in_err-content : goal.returns-in_err-content
returns-in_err-content c =
    let says = rw c.in-Some.ensures.lines at c.loop-line.invariant.says in
    let told = first_fault (stored_parts c.loop-line.parts) c.loop-line.number _ _ c.in_err-content.field-0.0 c.in_err-content.ensures.value in
    let fault : c.from_residual.result ≡ Err c.in_err-content.field-0.0 = grind (arith, common_steps) in
    rw fault (inl (sym says ∙ told))

pub loop-line-preserved : goal.loop-line-preserved
loop-line-preserved c =
    let says = rw c.in-Some.ensures.lines at c.loop-line.invariant.says in
    let next = first_next (stored_parts c.loop-line.parts) c.loop-line.number _ _ _ c.in_ok-content.ensures.value in
    let added : stored_parts c.add.new.self ≡ with_line (stored_parts c.loop-line.parts) c.loop-line.number c.in_ok-content.content = c.in_ok-add.ensures in
    record {
      says = rw added (sym next ∙ says);
      number = omega (arith, c.in-Some.ensures.shorter);
    }

pub returns : goal.returns
returns c = sym (rw c.in_default.ensures.lines at c.loop-line.invariant.says) ∙ first_end (stored_parts c.loop-line.parts) _
