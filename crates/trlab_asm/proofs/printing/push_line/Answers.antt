use Rattle.std.proofs.Common.{◌≡◌, ℕ, List, ◌++◌, ◌∷◌, [], append_assoc, Result, Ok, Err, OnOk}
use Rattle.trlab_asm.specs.Canonical.{label_text, instr_text}
use Rattle.trlab_asm.proofs.printing.push_line.Goals.{then-is_marked+in_ok-push_number+in_ok-extend_from_slice}
use Rattle.trlab_asm.proofs.printing.push_line.Goals.{else-is_marked}
use Rattle.trlab_asm.proofs.printing.push_line.Goals as goal

-- a text was put after a label
labelled : {E : Type 0} (r : Result (Unit {0}) E) (new mid start old label text : List ℕ) → mid ≡ start ++ (58 ∷ 32 ∷ []) → start ≡ old ++ label → OnOk r (new ≡ mid ++ text)
    → OnOk r (new ≡ old ++ (label ++ (58 ∷ 32 ∷ text)))
labelled (Ok x) new mid start old label text m s p = rw (p, m, s) (simp append_assoc)
labelled (Err e) new mid start old label text m s p = tt

pub returns-clause-line : goal.returns-clause-line
returns-clause-line c =
    let row : OnOk c.push_operation.result (c.push_operation.new.out.items ≡ c.if-is_marked.out.items ++ instr_text c.args.count c.args.instr) = rw (← c.operation_of.ensures.value) c.push_operation.ensures in
    elim c.if-is_marked.branch [
      | then-is_marked+in_ok-push_number+in_ok-extend_from_slice w ↦
          rw w.if-is_marked.true
          (labelled c.push_operation.result _ c.if-is_marked.out.items w.push_number.new.out.items c.args.out.now.items (label_text c.args.pc) (instr_text c.args.count c.args.instr)
          (rw w.out-is w.in_ok-extend_from_slice.ensures.items) w.in_ok-push_number.ensures row)
      | else-is_marked w ↦ rw w.if-is_marked.false (rw w.out-is at row)
    ]
