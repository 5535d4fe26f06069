use Rattle.std.proofs.Common.{◌∙◌, sym, arith}
use Rattle.trlab_code.specs.Machine.{variable_number}
use Rattle.trlab_notes.proofs.{Variables.below, Tables.known_is}
use Rattle.trlab_notes.proofs.rows.StoredNote.levels.Goals as goal

pub returns : goal.returns
returns c =
    let a = c.args.self.now in
    λ x y. c.loop-x.invariant.so_far (variable_number x) (omega (arith, below x, c.loop-x-test.false)) (variable_number y) (below y) ∙ sym (known_is a.values a.rows a.side a.ranges x y)
