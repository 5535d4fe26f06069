use Rattle.std.proofs.Common.{◌∙◌, refl, arith}
use mathlib.Core.Path.{fun_ext}
use Rattle.trlab_notes.proofs.Tables.{note_same, level_same, known_is}
use Rattle.trlab_verify.{specs.declared.note.Note.Note as Form, proofs.Forms.form_says}
use Rattle.trlab_verify.proofs.note.write.Goals as goal

pub returns : goal.returns
returns c =
    let a = c.args.note.now in
    let form : Form = record { regs = c.loop-x.regs; levels = c.levels.result; side = a.side } in
    note_same _ _ (fun_ext (form_says c.args.kind form a.values (λ x lt. c.loop-x.invariant.so_far x (omega arith)) c.requires)) (level_same _ _ (λ x y. c.levels.ensures x y ∙ known_is a.values a.rows a.side a.ranges x y)) refl
