use Rattle.std.proofs.Common.{◌∙◌, ap, sym, rules, get_or, set}
use Rattle.trlab_notes.specs.{declared.note.AbstractValue.TheVariants.Unknown, Notes.closure}
use Rattle.trlab_notes.specs.{Transfer.{assign, result_to, to_result}, Rows.level_in, Stored.note_of}
use Rattle.trlab_notes.proofs.Tables.{after_is, after_tells, after_back, corner}
use Rattle.trlab_notes.proofs.rows.StoredNote.assign_result.Goals as goal

pub invariant_of-result : goal.invariant_of-result
invariant_of-result c =
    let a = c.args.self.now in
    let d = c.number-variable.result in
    let s = c.result_value.result in
    let inside = c.number-variable.ensures.in_range in
    record {
      ranges = after_tells a d s (level_in c.result_to.result) (level_in c.to_result.result) c.with_variable.result (level_in c.known_row_and_column.result.0) (level_in c.known_row_and_column.result.1) inside (search rules) c.known_row_and_column.ensures.to c.known_row_and_column.ensures.from c.with_variable.ensures;
      transposed = after_back a d c.with_variable.result c.with_variable-2.result (level_in c.known_row_and_column.result.0) (level_in c.known_row_and_column.result.1) (c.known_row_and_column.ensures.to d inside ∙ corner (get_or (set a.values d s) d Unknown) d (level_in c.result_to.result d) (level_in c.to_result.result d) ∙ sym (c.known_row_and_column.ensures.from d inside)) c.with_variable.ensures c.with_variable-2.ensures;
    }

pub returns : goal.returns
returns c =
    let a = c.args.self.now in
    let d = c.number-variable.result in
    let i = c.args.instr in
    after_is a d c.result_value.result (level_in c.result_to.result) (level_in c.to_result.result) c.with_variable.result (level_in c.known_row_and_column.result.0) (level_in c.known_row_and_column.result.1) c.number-variable.ensures.in_range (search rules) c.known_row_and_column.ensures.to c.known_row_and_column.ensures.from c.with_variable.ensures c.args.dest (result_to (note_of a) i) (to_result (note_of a) i) c.number-variable.ensures.value c.result_to.ensures c.to_result.ensures
    ∙ ap (λ values. closure (assign (note_of a) c.args.dest values (result_to (note_of a) i) (to_result (note_of a) i))) c.result_value.ensures
