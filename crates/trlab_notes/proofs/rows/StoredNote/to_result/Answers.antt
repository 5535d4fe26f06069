use Rattle.trlab_code.specs.Machine.{variable_number}
use Rattle.trlab_notes.{specs.Transfer.sharpen, proofs.Bits.sum_levels}
use Rattle.trlab_notes.proofs.rows.StoredNote.to_result.Goals as goal

pub returns-in-Add : goal.returns-in-Add
returns-in-Add c = λ y. rw c.in-Add.is (let e = sum_levels sharpen _ _ _ _ _ _ _ _ _ (c.max_levels.ensures (variable_number y)) (c.sharpen-by_a.ensures (variable_number y)) (c.sharpen-by_b.ensures (variable_number y)) (c.column-in-Add.ensures y) (c.column-in-Add-2.ensures y) in rw (c.low.ensures, c.low-in-Add.ensures, c.register_value.ensures, c.register_value-in-Add.ensures) at e)
