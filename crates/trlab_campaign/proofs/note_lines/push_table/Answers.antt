use Rattle.std.proofs.Common.{◌≡◌, ◌-◌, ◌++◌, ◌∙◌, ap, arith, length, sym, append-nil}
use Rattle.std.proofs.lemmas.List.{get_or_default}
use Rattle.trlab_verify.specs.declared.note.Note.{Note as Form}
use Rattle.trlab_verify.specs.Tables.{form_without_marks, meaning, meaning_at}
use Rattle.trlab_campaign.{specs.CheckOutput.note_line, proofs.Lines.next_number}
use Rattle.trlab_campaign.proofs.note_lines.push_table.Goals as goal

pub loop-pc-preserved : goal.loop-pc-preserved
loop-pc-preserved c = λ kind.
    next_number (λ pc. note_line pc (meaning_at kind c.args.table.now pc)) c.loop-pc.pc (length c.args.table.now) c.loop-pc.out.items c.push_note.new.out.items c.loop-pc-test.true
    (c.in_ok-push_note.ensures kind ∙ ap (λ (form : Form). c.loop-pc.out.items ++ note_line c.loop-pc.pc (meaning kind form)) (get_or_default c.args.table.now c.loop-pc.pc _ form_without_marks c.loop-pc-test.true))
    ∙ c.loop-pc.invariant kind

pub returns : goal.returns
returns c = λ kind.
    let left : length c.args.table.now - c.loop-pc.pc ≡ 0 = omega arith in
    sym (append-nil c.loop-pc.out.items) ∙ (rw left at (c.loop-pc.invariant kind))
