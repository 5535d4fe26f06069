use Rattle.trlab_code.specs.Machine.{variable_number}
use Rattle.trlab_notes.{specs.Transfer.slacken, proofs.Bits.sum_levels}
use Rattle.trlab_notes.proofs.rows.StoredNote.result_to.Goals as goal

pub returns-in-Add : goal.returns-in-Add
returns-in-Add c = λ y. rw c.in-Add.is (let e = sum_levels slacken _ _ _ _ _ _ _ _ _ (c.max_levels.ensures (variable_number y)) (c.slacken-by_a.ensures (variable_number y)) (c.slacken-by_b.ensures (variable_number y)) (c.row-in-Add.ensures y) (c.row-in-Add-2.ensures y) in rw (c.high.ensures, c.high-in-Add.ensures, c.register_value.ensures, c.register_value-in-Add.ensures) at e)
