use Rattle.std.proofs.Common.{◌<◌, length, length-append, arith, refl, sym, inl, inr, eqb-true}
use Rattle.std.proofs.lemmas.Bool.{eqb-false}
use Rattle.trlab_lines.proofs.Cuts.{no_line, no_line_in, no_byte_in, nowhere, only_line, lines_of_cut}
use Rattle.trlab_lines.proofs.Cuts.{bytes_of_cut, no_end_of_cut, no_cut}
use Rattle.trlab_lines.proofs.lines.next_line.Goals as goal

pub returns-then-is_empty-clause-lines : goal.returns-then-is_empty-clause-lines
returns-then-is_empty-clause-lines c = no_line_in c.args.text.now (eqb-true (length c.args.text.now) 0 (sym c.if-is_empty.ensures))

pub returns-then-is_empty-clause-bytes : goal.returns-then-is_empty-clause-bytes
returns-then-is_empty-clause-bytes c = no_byte_in c.args.text.now (eqb-true (length c.args.text.now) 0 (sym c.if-is_empty.ensures))

pub returns-in-None-clause-lines : goal.returns-in-None-clause-lines
returns-in-None-clause-lines c =
    let apart = eqb-false (length c.args.text.now) 0 (sym c.if-is_empty.ensures) in
    let some : 0 < length c.args.text.now = omega arith in
    rw no_line (only_line c.args.text.now some (no_cut c.args.text.now c.in-None.ensures))

pub returns-in-None-clause-bytes : goal.returns-in-None-clause-bytes
returns-in-None-clause-bytes c = inr (refl, refl)

pub returns-in-None-clause-shorter : goal.returns-in-None-clause-shorter
returns-in-None-clause-shorter c =
    let apart = eqb-false (length c.args.text.now) 0 (sym c.if-is_empty.ensures) in
    omega arith

pub returns-in-None-clause-no_end : goal.returns-in-None-clause-no_end
returns-in-None-clause-no_end c = nowhere c.args.text.now (no_cut c.args.text.now c.in-None.ensures)

pub returns-in-Some-clause-lines : goal.returns-in-Some-clause-lines
returns-in-Some-clause-lines c = lines_of_cut c.args.text.now c.in-Some.found.0.now c.in-Some.found.1.now c.in-Some.ensures

pub returns-in-Some-clause-bytes : goal.returns-in-Some-clause-bytes
returns-in-Some-clause-bytes c = inl (bytes_of_cut c.args.text.now c.in-Some.found.0.now c.in-Some.found.1.now c.in-Some.ensures)

pub returns-in-Some-clause-no_end : goal.returns-in-Some-clause-no_end
returns-in-Some-clause-no_end c = no_end_of_cut c.args.text.now c.in-Some.found.0.now c.in-Some.found.1.now c.in-Some.ensures

pub returns-in-Some-clause-shorter : goal.returns-in-Some-clause-shorter
returns-in-Some-clause-shorter c =
    let bytes = bytes_of_cut c.args.text.now c.in-Some.found.0.now c.in-Some.found.1.now c.in-Some.ensures in
    rw (bytes, length-append) (omega arith)
