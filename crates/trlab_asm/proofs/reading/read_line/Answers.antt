use Rattle.std.proofs.Common.{◌≡◌, ◌∙◌, ℕ, List, ap, Option, Result, Ok, Err}
use Rattle.std.proofs.lemmas.Result.{err_from_is_err_and}
use Rattle.trlab_lines.specs.Lines.{without_comment, label_and_rest, without_indent}
use Rattle.trlab_asm.specs.{Operands.{◌>>=◌}, Reading.{InstrDraft, Labels, Line, body, label_of}}
use Rattle.trlab_asm.specs.{Reading.{content_of_parts, line_content}, declared.fault.Why.Why, Stored.pcs}
use Rattle.trlab_asm.proofs.reading.read_line.Goals as goal

-- a line whose label is known
abbrev of_draft : Option (List ℕ) → Result (Option InstrDraft) Why → Result Line Why
of_draft label draft = draft >>= λ draft. Ok (record { label = label; draft = draft })

-- a line whose label is checked
abbrev of_label : ℕ → List ℕ → Result (Option (List ℕ)) Why → Result Line Why
of_label pc rest label = label >>= λ label. of_draft label (body pc (without_indent rest))

-- the result for the parts of a line is the result for the line
of_line : (labels : Labels) (pc : ℕ) (line before : List ℕ) (parts : Option (List ℕ) × List ℕ)
    → before ≡ without_comment line → parts ≡ label_and_rest before → content_of_parts labels pc parts ≡ line_content labels pc line
of_line labels pc line before parts e f = ap (λ p. content_of_parts labels pc p) (f ∙ ap label_and_rest e)

of_parts : (labels : Labels) (pc : ℕ) (line before : List ℕ) (parts : Option (List ℕ) × List ℕ)
    → before ≡ without_comment line → parts ≡ label_and_rest before → (text : List ℕ) (label : Option (List ℕ)) (draft : Result (Option InstrDraft) Why)
    → Ok label ≡ label_of labels parts.0 → text ≡ without_indent parts.1 → draft ≡ body pc text → of_draft label draft ≡ line_content labels pc line
of_parts labels pc line before parts e f text label draft h g k =
    ap (of_draft label) (k ∙ ap (body pc) g) ∙ (ap (of_label pc parts.1) h ∙ of_line labels pc line before parts e f)

pub returns-in_err-label-clause-value : goal.returns-in_err-label-clause-value
returns-in_err-label-clause-value c =
    let p = err_from_is_err_and c.from_residual.result c.from_residual.ensures.1 in
    let whole = of_line (pcs c.args.labels.now) c.args.pc c.args.line.now _ _ c.without_comment.ensures c.label_and_rest.ensures in
    p.1 ∙ (ap Err p.2 ∙ (ap (of_label c.args.pc c.label_and_rest.result.1.now) c.in_err-label.ensures ∙ whole))

pub returns-in_err-draft-clause-value : goal.returns-in_err-draft-clause-value
returns-in_err-draft-clause-value c =
    let p = err_from_is_err_and c.from_residual-in_err-draft.result c.from_residual-in_err-draft.ensures.1 in
    let whole = of_parts (pcs c.args.labels.now) c.args.pc c.args.line.now _ _ c.without_comment.ensures c.label_and_rest.ensures
    _ _ _ c.in_ok-label.ensures c.without_indent.ensures c.in_err-draft.ensures.value in
    p.1 ∙ (ap Err p.2 ∙ whole)

pub returns-clause-value : goal.returns-clause-value
returns-clause-value c =
    of_parts (pcs c.args.labels.now) c.args.pc c.args.line.now _ _ c.without_comment.ensures c.label_and_rest.ensures
    _ _ _ c.in_ok-label.ensures c.without_indent.ensures c.in_ok-draft.ensures.value

pub returns-clause-room : goal.returns-clause-room
returns-clause-room c = c.in_ok-draft.ensures.room
