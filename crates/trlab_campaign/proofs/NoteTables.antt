-- The lines of the notes that the verifier returns.
use Rattle.std.proofs.Common.{◌≡◌, ℕ, ◌+◌, ◌<◌, List, length, flat_map, drop, get_or, refl, sym, ◌∙◌, ap}
use Rattle.std.proofs.Common.{arith, ◌++◌, ◌∷◌, [], append_assoc, Result, Ok, Err, OnOk, is_ok, if◌then◌else◌}
use Rattle.std.proofs.{Common.{Some, slice_index_or, codes, decimal}, lemmas.List.{get_or-map, length-map}}
use Rattle.std.specs.List.{range_with_len}
use Rattle.trlab_code.specs.declared.{program.Kind.Kind, instruction.Register.Register}
use Rattle.trlab_code.specs.{Machine.register_number, Program.Program}
use Rattle.trlab_notes.specs.Notes.{with_side}
use Rattle.trlab_verify.specs.declared.note.{Mark.TheVariants.Unset, Note.Note as Form}
use Rattle.trlab_verify.specs.Tables.{form_without_marks, meaning, meaning_at, mark_value, table_of}
use Rattle.trlab_verify.specs.{Tables.{AreVerdictNotes, empty_note}, Verdict.note_at}
use Rattle.trlab_campaign.specs.CheckOutput.{maybe_note_line, note_line, notes_text, abstract_value_text}
use Rattle.trlab_campaign.proofs.Lines.{next_whole, pieces_agree}
use Rattle.trlab_asm.specs.declared.names.TheConstants.{REGISTERS}

-- the text that a form has for a register
abbrev pub marked_text : Form → Register → List ℕ
marked_text form register = abstract_value_text register (with_side form.side (mark_value (slice_index_or form.regs (register_number register) Unset)))

-- the next register's text of a form was appended to a text
pub next_marked : (form : Form) (i number : ℕ) (d : Register) (old new : List ℕ) → i < length REGISTERS → number ≡ register_number (get_or REGISTERS i d)
    → new ≡ old ++ abstract_value_text (get_or REGISTERS i d) (with_side form.side (mark_value (slice_index_or form.regs number Unset)))
    → new ++ flat_map (marked_text form) (drop (i + 1) REGISTERS) ≡ old ++ flat_map (marked_text form) (drop i REGISTERS)
next_marked form i number d old new inside is added =
    next_whole (marked_text form) REGISTERS i d old new _ inside (rw is refl) added

-- the lines of the notes in the verdict's table are those of the program
pub table_lines : (program : Program) (forms : List Form) → AreVerdictNotes program.kind program (table_of program.kind forms)
    → flat_map (λ pc. note_line pc (meaning_at program.kind forms pc)) (range_with_len 0 (length forms)) ≡ notes_text program
table_lines program forms are =
    let count : length forms ≡ length program.instrs = sym (length-map forms (meaning program.kind)) ∙ are.one_each in
    let agree = pieces_agree (λ pc. note_line pc (meaning_at program.kind forms pc)) (λ pc. maybe_note_line pc (note_at program.kind program.instrs pc)) 0 (length forms)
    (λ pc below. sym (ap (maybe_note_line pc) (are.each pc (omega (arith, count)) ∙ ap Some (get_or-map (meaning program.kind) forms pc form_without_marks empty_note (omega arith))))) in
    agree ∙ ap (λ n. flat_map (λ pc. maybe_note_line pc (note_at program.kind program.instrs pc)) (range_with_len 0 n)) count

-- the parts of a note's line were appended to a text
pub note_put : {E : Type 0} (r : Result (Unit {0}) E) (pc : ℕ) (registers side head old a b new : List ℕ) → head ≡ codes "note " ++ decimal pc → a ≡ old ++ head
    → b ≡ a ++ registers → new ≡ (if is_ok r then b ++ (side ++ (10 ∷ [])) else b)
    → OnOk r (new ≡ old ++ (codes "note " ++ (decimal pc ++ (registers ++ (side ++ (10 ∷ []))))))
note_put (Ok x) pc registers side head old a b new h p q s = rw (s, q, p, h) (simp append_assoc)
note_put (Err e) pc registers side head old a b new h p q s = tt

-- the lines of such a table were appended to a text
pub notes_put : {E : Type 0} (r : Result (Unit {0}) E) (program : Program) (forms : List Form) (old new : List ℕ) → AreVerdictNotes program.kind program (table_of program.kind forms)
    → ((kind : Kind) → OnOk r (new ≡ old ++ flat_map (λ pc. note_line pc (meaning_at kind forms pc)) (range_with_len 0 (length forms)))) → OnOk r (new ≡ old ++ notes_text program)
notes_put (Ok x) program forms old new are put = put program.kind ∙ ap (λ (t : List ℕ). old ++ t) (table_lines program forms are)
notes_put (Err e) program forms old new are put = tt
