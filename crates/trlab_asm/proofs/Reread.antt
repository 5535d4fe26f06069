-- The canonical text of a program is read back as the program.
use Rattle.std.proofs.Common.{◌≡◌, ◌≢◌, ◌==◌, ◌||◌, ℕ, zero, suc, ◌+◌, ◌<◌, ◌≤◌, ◌^◌, List, [], ◌∷◌, ◌++◌}
use Rattle.std.proofs.Common.{length, take, All, refl, sym, ◌∙◌, ap, arith, Bool, true, false, cond}
use Rattle.std.proofs.Common.{append_assoc, append-nil, length-append, add-one, subst, None, Some, Ok, nat_lt}
use Rattle.std.proofs.Common.{nat_eq, decimal, bytes_eq, ltb-true, ne_eqb, eq-eqb, eqb-true, take_all}
use Rattle.std.proofs.lemmas.{Slice.Eq.bytes_eq-Decides, Fmt.decimal_injective}
use Rattle.std.{proofs.lemmas.List.Elements.{All-head, All-tail}, specs.List.AllByRecursion}
use Rattle.trlab_code.specs.{Flow.target, declared.instruction.Instr.{Instr, TheVariants.{Go, Cross, Stay}}}
use Rattle.trlab_code.specs.{Program.{Program, IsInRange, IsValidProgram}, Laws.FitsIn32Bits}
use Rattle.trlab_code.specs.declared.instruction.Instr.TheVariants.{Num, Get, Side, Draw, Copy, Add, Sub, Mul}
use Rattle.trlab_code.specs.declared.instruction.Instr.TheVariants.{Div, Min, Max, Not, And, Or, Jump}
use Rattle.trlab_code.specs.declared.instruction.Instr.TheVariants.{JumpLess, JumpAtMost, JumpTrue, JumpFalse}
use Rattle.trlab_bounds.specs.declared.programs.TheConstants.{MAX_INSTRUCTIONS}
use Rattle.trlab_lines.{specs.Lines.lines_of, proofs.Cuts.line_and_rest}
use Rattle.trlab_asm.specs.{Operands.WrittenTarget, Laws.{CanonicalTextGivesProgram, TextDeterminesProgram}}
use Rattle.trlab_asm.{specs.Reading.{Labels, line_content}, proofs.Printed.goal_of}
use Rattle.trlab_asm.specs.Assembly.{LineDraft, with_label, first_pass, with_target, resolve_label, resolve}
use Rattle.trlab_asm.{specs.Assembly.{second_pass, code_of}, proofs.PrintedInstrs.{Fits, draft_again}}
use Rattle.trlab_asm.specs.Canonical.{label_text, instr_line, is_pc, is_jumped_to, text_from, canonical_text}
use Rattle.trlab_asm.proofs.{Passes.first_next, PrintedLines.{mark, line_has_no_end, line_again}}

-- the labels of the pcs below one
abbrev labels_below : List Instr → ℕ → Labels
labels_below instrs zero = λ name. None
labels_below instrs (suc pc) = with_label (labels_below instrs pc) pc (mark (is_jumped_to instrs pc) pc)

-- the instructions as they are read
abbrev reads_of : ℕ → ℕ → List Instr → List LineDraft
reads_of count number [] = []
reads_of count number (i ∷ left) = record { line = number; draft = draft_again count i } ∷ reads_of count (number + 1) left

tail_same : (a b : List ℕ) → (76 ∷ a) ≡ (76 ∷ b) → a ≡ b
tail_same a b e = cc

not_same : (a b : List ℕ) (t : Bool) → bytes_eq a b ≡ t → a ≢ b → bytes_eq a b ≡ false
not_same a b true e differ = absurd (differ ((bytes_eq-Decides a b).0 e))
not_same a b false e differ = e

other_label : (m n : ℕ) → m < 2 ^ 32 → n < 2 ^ 32 → m ≢ n → bytes_eq (label_text m) (label_text n) ≡ false
other_label m n first second differ = not_same (label_text m) (label_text n) (bytes_eq (label_text m) (label_text n)) refl
    (λ e. differ (decimal_injective m n (omega arith) (omega arith) (tail_same (decimal m) (decimal n) e)))

same_label : (n : ℕ) → bytes_eq (label_text n) (label_text n) ≡ true
same_label n = (bytes_eq-Decides (label_text n) (label_text n)).1 refl

-- a label of another pc changes nothing
other_step : (labels : Labels) (n t : ℕ) (b : Bool) → n < 2 ^ 32 → t < 2 ^ 32 → n ≢ t → with_label labels n (mark b n) (label_text t) ≡ labels (label_text t)
other_step labels n t true small small_too differ = rw (other_label n t small small_too differ) refl
other_step labels n t false small small_too differ = refl

-- a label is not known before its pc
free : (instrs : List Instr) (n t : ℕ) → n ≤ t → t < 2 ^ 32 → labels_below instrs n (label_text t) ≡ None
free instrs zero t le small = refl
free instrs (suc n) t le small =
    other_step (labels_below instrs n) n t (is_jumped_to instrs n) (omega arith) small (λ e. absurd (omega arith)) ∙ free instrs n t (omega arith) small

-- but it is known from there on, if some jump goes there
here_step : (labels : Labels) (n t : ℕ) (b : Bool) → n ≡ t → b ≡ true → with_label labels n (mark b n) (label_text t) ≡ Some t
here_step labels n t true is marked = rw (is, same_label t) refl
here_step labels n t false is marked = cc

found_step : (labels : Labels) (n t : ℕ) (b same : Bool) → nat_eq n t ≡ same → n < 2 ^ 32 → t < 2 ^ 32 → (n ≡ t → b ≡ true) → (n ≢ t → labels (label_text t) ≡ Some t)
    → with_label labels n (mark b n) (label_text t) ≡ Some t
found_step labels n t b true e small small_too marked there = here_step labels n t b (eqb-true n t e) (marked (eqb-true n t e))
found_step labels n t b false e small small_too marked there =
    let differ : n ≢ t = (λ same. let both : true ≡ false = sym (eq-eqb n t same) ∙ e in cc) in
    other_step labels n t b small small_too differ ∙ there differ

found : (instrs : List Instr) (n t : ℕ) → t < n → n < 2 ^ 32 → is_jumped_to instrs t ≡ true → labels_below instrs n (label_text t) ≡ Some t
found instrs zero t below small marked = absurd (omega arith)
found instrs (suc n) t below small marked =
    found_step (labels_below instrs n) n t (is_jumped_to instrs n) (nat_eq n t) refl (omega arith) (omega arith) (λ e. ap (is_jumped_to instrs) e ∙ marked)
    (λ differ. found instrs n t (omega arith) (omega arith) marked)

says_at : (labels : Labels) (count pc here : ℕ) (marked : Bool) (i : Instr) → here ≡ pc → pc < MAX_INSTRUCTIONS → Fits i → labels (label_text pc) ≡ None
    → line_content labels here (instr_line count marked pc i) ≡ Ok (record { label = mark marked pc; draft = Some (draft_again count i) })
says_at labels count pc here marked i same room fits none = subst (λ n. line_content labels n (instr_line count marked pc i) ≡ Ok (record { label = mark marked pc; draft = Some (draft_again count i) })) (sym same) (line_again labels count pc marked i room fits none)

-- the first pass over the canonical text
first_again : (instrs : List Instr) (pc number : ℕ) (before : List LineDraft) (left : List Instr) → length before ≡ pc → pc + length left ≤ MAX_INSTRUCTIONS → AllByRecursion Fits left
    → first_pass (record { labels = labels_below instrs pc; drafts = before }) number (lines_of (text_from instrs pc left)) ≡ Ok (record { labels = labels_below instrs (pc + length left); drafts = before ++ reads_of (length instrs) number left })
unfolding first_pass text_from lines_of
first_again instrs pc number before [] at room fit = let end : pc + 0 ≡ pc = omega arith in rw (append-nil before, end) refl
first_again instrs pc number before (i ∷ left) at room fit =
    let says = says_at (labels_below instrs pc) (length instrs) pc (length before) (is_jumped_to instrs pc) i at (omega arith) fit.0 (free instrs pc pc (omega arith) (omega arith)) in
    let line = line_and_rest (instr_line (length instrs) (is_jumped_to instrs pc) pc i) (text_from instrs (pc + 1) left) (line_has_no_end (length instrs) pc (is_jumped_to instrs pc) i (omega arith) fit.0) in
    let next = first_next (record { labels = labels_below instrs pc; drafts = before }) number (instr_line (length instrs) (is_jumped_to instrs pc) pc i) (lines_of (text_from instrs (pc + 1) left)) (record { label = mark (is_jumped_to instrs pc) pc; draft = Some (draft_again (length instrs) i) }) (rw says refl) in
    let more = first_again instrs (pc + 1) (number + 1) (before ++ (record { line = number; draft = draft_again (length instrs) i } ∷ [])) left (simp length-append (omega arith)) (omega arith) fit.1 in
    let marked : labels_below instrs (pc + 1) ≡ with_label (labels_below instrs pc) (length before) (mark (is_jumped_to instrs pc) pc) = rw (at, add-one) refl in
    let end : pc + 1 + length left ≡ pc + length (i ∷ left) = omega arith in
    ap (first_pass (record { labels = labels_below instrs pc; drafts = before }) number) line ∙ (next ∙ rw (marked, end, append_assoc) at more)

-- the target of a jump is read back
jump_again : (labels : Labels) (count line t : ℕ) (instr : ℕ → Instr) → ((pc q : ℕ) → with_target pc (instr q) ≡ instr pc) → (t < count → labels (label_text t) ≡ Some t)
    → resolve_label labels line (instr (goal_of count t).pc) (goal_of count t).label ≡ Ok (instr t)
jump_again labels count line t instr aim known = by_cases (nat_lt t count) refl
  where
    by_cases : (b : Bool) → nat_lt t count ≡ b
        → resolve_label labels line (instr (cond {A = WrittenTarget} b (record { pc = 0; label = Some (label_text t) }) (record { pc = t; label = None })).pc) (cond {A = WrittenTarget} b (record { pc = 0; label = Some (label_text t) }) (record { pc = t; label = None })).label ≡ Ok (instr t)
    by_cases true e = rw (known (ltb-true t count e), aim t 0) refl
    by_cases false e = refl

finish_again : (labels : Labels) (count line : ℕ) (i : Instr) → ((t : ℕ) → is_pc t (target i) ≡ true → t < count → labels (label_text t) ≡ Some t)
    → resolve labels (record { line = line; draft = draft_again count i }) ≡ Ok i
finish_again labels count line (Num d n) known = refl
finish_again labels count line (Get d k) known = refl
finish_again labels count line (Side d) known = refl
finish_again labels count line (Draw d k t) known = refl
finish_again labels count line (Copy d a) known = refl
finish_again labels count line (Add d a b) known = refl
finish_again labels count line (Sub d a b) known = refl
finish_again labels count line (Mul d a n) known = refl
finish_again labels count line (Div d a n) known = refl
finish_again labels count line (Min d a b) known = refl
finish_again labels count line (Max d a b) known = refl
finish_again labels count line (Not d a) known = refl
finish_again labels count line (And d a b) known = refl
finish_again labels count line (Or d a b) known = refl
finish_again labels count line (Jump t) known = jump_again labels count line t Jump (λ pc q. refl) (known t (eq-eqb t t refl))
finish_again labels count line (JumpLess a b t) known = jump_again labels count line t (JumpLess a b) (λ pc q. refl) (known t (eq-eqb t t refl))
finish_again labels count line (JumpAtMost a b t) known = jump_again labels count line t (JumpAtMost a b) (λ pc q. refl) (known t (eq-eqb t t refl))
finish_again labels count line (JumpTrue a t) known = jump_again labels count line t (JumpTrue a) (λ pc q. refl) (known t (eq-eqb t t refl))
finish_again labels count line (JumpFalse a t) known = jump_again labels count line t (JumpFalse a) (λ pc q. refl) (known t (eq-eqb t t refl))
finish_again labels count line (Go a) known = refl
finish_again labels count line Cross known = refl
finish_again labels count line Stay known = refl

or_left : (a b : Bool) → a ≡ true → (a || b) ≡ true
or_left a b e = rw e refl

or_right : (a b : Bool) → b ≡ true → (a || b) ≡ true
or_right true b e = refl
or_right false b e = e

-- the second pass, for a rest of the instructions whose jumps are jumps of the program
second_again : (instrs : List Instr) (number : ℕ) (left : List Instr) → length instrs < 2 ^ 32 → ((t : ℕ) → is_jumped_to left t ≡ true → is_jumped_to instrs t ≡ true)
    → second_pass (labels_below instrs (length instrs)) (reads_of (length instrs) number left) ≡ Ok left
unfolding second_pass
second_again instrs number [] small all = refl
second_again instrs number (i ∷ left) small all =
    rw (
      finish_again (labels_below instrs (length instrs)) (length instrs) number i (λ t here below. found instrs (length instrs) t below small (all t (or_left (is_pc t (target i)) (is_jumped_to left t) here))),
      second_again instrs (number + 1) left small (λ t here. all t (or_right (is_pc t (target i)) (is_jumped_to left t) here)),
    ) refl

length_reads : (count number : ℕ) (instrs : List Instr) → length (reads_of count number instrs) ≡ length instrs
length_reads count number [] = refl
length_reads count number (i ∷ instrs) = ap suc (length_reads count (number + 1) instrs)

some_read : (instrs : List Instr) → 0 < length instrs → (length (reads_of (length instrs) 1 instrs) == 0) ≡ false
some_read instrs some = rw (length_reads (length instrs) 1 instrs) (ne_eqb (length instrs) 0 (λ e. absurd (omega arith)))

all_fit : (instrs : List Instr) → All IsInRange instrs → All FitsIn32Bits instrs → AllByRecursion Fits instrs
all_fit [] in_range has_word = tt
all_fit (i ∷ instrs) in_range has_word =
    ((All-head IsInRange i instrs in_range, All-head FitsIn32Bits i instrs has_word), all_fit instrs (All-tail IsInRange i instrs in_range) (All-tail FitsIn32Bits i instrs has_word))

-- the text of a program is read back as the program
pub again : CanonicalTextGivesProgram
again program stored =
    let instrs = program.instrs in
    let some = stored.is_program.some in
    let few = stored.is_program.few in
    let fit = all_fit program.instrs stored.is_program.in_range stored.has_words in
    let end : 0 + length program.instrs ≡ length program.instrs = omega arith in
    let first = rw end at (first_again program.instrs 0 1 [] program.instrs refl (omega arith) fit) in
    rw (first, some_read program.instrs (omega arith), second_again program.instrs 1 program.instrs (omega arith) (λ t here. here)) refl

-- so two programs of the same kind with the same text are equal
pub one_program : TextDeterminesProgram
one_program first second stored stored_too kinds texts =
    let one = again first stored in
    let other = again second stored_too in
    cc

-- the same, for a machine that has checked all the words of the instructions
pub reread : (program : Program) (instrs : List Instr) (text : List ℕ) (n : ℕ) → instrs ≡ program.instrs → IsValidProgram program → length instrs ≤ n → All FitsIn32Bits (take n instrs) → text ≡ canonical_text instrs
    → code_of program.kind (lines_of text) ≡ Ok program
reread program instrs text n same stored all words canonical =
    let whole : take n program.instrs ≡ program.instrs = take_all n program.instrs (rw same at all) in
    let has_words = rw whole at (rw same at words) in
    rw (canonical, same) (again program (record { is_program = stored; has_words = has_words }))
