-- How the code keeps notes: as arrays in the order of the variables' numbers.
use Rattle.std.specs.Prelude.{ℕ, List, Option, Some, None, slice_index_or}
use Rattle.trlab_code.specs.Machine.{variable_number}
use Rattle.trlab_notes.specs.{declared.rows.StoredNote.StoredNote, Notes.Note, Rows.{level_of, value_in}}

-- the note that the code keeps as `stored`
abbrev pub note_of : StoredNote → Note
note_of stored = record {
  values = value_in stored.values;
  level = λ x y. level_of stored.rows (variable_number x) (variable_number y);
  side = stored.side;
}

-- the note that the code keeps, if there is one
abbrev pub maybe_note : Option StoredNote → Option Note
maybe_note None = None
maybe_note (Some stored) = Some (note_of stored)

-- the note that the code keeps for the instruction at q; `None` if it keeps none
abbrev pub stored_note_at : List (Option StoredNote) → ℕ → Option Note
stored_note_at notes q = maybe_note (slice_index_or notes q None)
