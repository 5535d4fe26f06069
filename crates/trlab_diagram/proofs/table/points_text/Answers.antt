use Rattle.std.proofs.Common.{◌≢◌, ◌∙◌}
use Rattle.csv.specs.declared.writer.QuoteStyle.TheVariants as style
use Rattle.csv.specs.Writing.{writer_setup}
use Rattle.trlab_diagram.proofs.Rows.{next_line}
use Rattle.trlab_diagram.proofs.table.points_text.Goals as goal

pub loop-point-init : goal.loop-point-init
loop-point-init c =
    let from = c.from_writer-writer.ensures in
    let wrote = c.in_ok-write_byte_record.ensures in
    let plain : (writer_setup c.from_writer-writer.result).style ≢ style.NonNumeric = rw from.cfg (λ e. cc e) in
    let bytes = wrote.bytes from.fields from.wrote plain in
    record {
      setup = wrote.setup ∙ from.cfg;
      fields = wrote.ended;
      wrote = wrote.clean;
      text = rw (from.cfg, from.wtr, c.new.ensures.items, from.empty, c.in_ok-heading_row.ensures) at bytes;
    }

pub loop-point-preserved : goal.loop-point-preserved
loop-point-preserved c =
    let inv = c.loop-point.invariant in
    let wrote = c.in_ok-write_byte_record-2.ensures in
    let plain : (writer_setup c.loop-point.writer).style ≢ style.NonNumeric = rw inv.setup (λ e. cc e) in
    let bytes = wrote.bytes inv.fields inv.wrote plain in
    let more = next_line c.args.points.now c.loop-point.point-index _ c.loop-point-test.true in
    record {
      setup = wrote.setup ∙ inv.setup;
      fields = wrote.ended;
      wrote = wrote.clean;
      text = rw (inv.setup, inv.text, c.in_ok-point_row.ensures) at bytes ∙ more;
    }
