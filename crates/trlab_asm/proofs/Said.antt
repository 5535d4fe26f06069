-- Every text is a program or has a first fault, and this fault is never a failed allocation.
use Rattle.std.proofs.Common.{◌≡◌, ◌≢◌, ℕ, suc, ◌+◌, ◌-◌, ◌<◌, ◌≤◌, Bool, true, false, ◌&&◌, ◌==◌}
use Rattle.std.proofs.Common.{if◌then◌else◌, nat_le, nat_lt, List, [], ◌∷◌, length, All, Option, Some, None}
use Rattle.std.proofs.Common.{Result, Ok, Err, MatchResult, refl, arith, length-append, leb-true, ltb-true}
use Rattle.std.proofs.{Common.{codes, ok_or}, lemmas.{Bool.eqb-false, List.Elements.{All-cons, All-head}}}
use Rattle.std.{proofs.lemmas.List.Elements.{All-push, All-tail}, specs.Str.Parse.digits_value}
use Rattle.trlab_code.specs.{declared.program.Kind.Kind, Program.{IsInRange, IsValidProgram}}
use Rattle.trlab_code.specs.declared.instruction.Instr.{Instr, TheVariants.{Go, Cross, Stay}}
use Rattle.trlab_code.specs.declared.instruction.Instr.TheVariants.{Num, Get, Side, Draw, Copy, Add, Sub, Mul}
use Rattle.trlab_code.specs.declared.instruction.Instr.TheVariants.{Div, Min, Max, Not, And, Or, Jump}
use Rattle.trlab_code.specs.declared.instruction.Instr.TheVariants.{JumpLess, JumpAtMost, JumpTrue, JumpFalse}
use Rattle.trlab_bounds.specs.declared.programs.TheConstants.{MAX_INSTRUCTIONS, WORDS, CERTAIN, MAX_NUMBER}
use Rattle.trlab_bounds.specs.declared.programs.TheConstants.{MAX_DIGITS}
use Rattle.trlab_lines.specs.Lines.{without_prefix, cut, label_and_rest, only_word, without_comment}
use Rattle.trlab_lines.specs.Lines.{without_indent, up_to_blank, is_numeral, lines_of}
use Rattle.trlab_asm.specs.{Names.{register_named, input_named, mnemonic_named}, Operands.{◌then◌, digits_of}}
use Rattle.trlab_asm.specs.Operands.{input, is_label, no_operand, number, numeral, pc_named, value_within}
use Rattle.trlab_asm.specs.Operands.{register, register_input, register_and_number, register_target}
use Rattle.trlab_asm.specs.Operands.{register_word_chance, jump_target, target_named, three_registers}
use Rattle.trlab_asm.specs.Operands.{two_registers, two_registers_number, two_registers_target, word}
use Rattle.trlab_asm.specs.{Operands.{word_chance, ◌>>=◌}, Reading.{InstrDraft, Labels, Line, body, draft_of}}
use Rattle.trlab_asm.specs.{Reading.{if_free, instruction, label_of, line_content, new_label}, Assembly.Parts}
use Rattle.trlab_asm.specs.Assembly.{LineDraft, with_target, jump_to, code_of, resolve, first_pass, in_line}
use Rattle.trlab_asm.specs.Assembly.{instrs_of, no_parts, resolve_label, second_pass, with_line, with_draft}
use Rattle.trlab_asm.specs.{Laws.TextsHaveMeaning, declared.{names.Mnemonic.Mnemonic, fault.Why.Why}}
use Rattle.trlab_asm.specs.declared.fault.Why.TheVariants.{Memory, Number, Operand, TooLong, Word}
use Rattle.trlab_asm.specs.declared.fault.AsmFault.{AsmFault}
use Rattle.trlab_asm.specs.declared.names.Mnemonic.TheVariants as name

-- a result has a property, or is a fault other than a failed allocation
abbrev Gives : {A : Type 0} → (A → Type 0) → Result A Why → Type 0
Gives P (Ok x) = P x
Gives P (Err why) = why ≢ Memory

abbrev Anything : {A : Type 0} → A → Type 0
Anything x = Unit {0}

then_gives : {A B : Type 0} (P : A → Type 0) (Q : B → Type 0) (r : Result A Why) (f : A → Result B Why)
    → Gives P r → ((x : A) → P x → Gives Q (f x)) → Gives Q (r >>= f)
then_gives P Q (Ok x) f h k = k x h
then_gives P Q (Err why) f h k = h

if_gives : {A : Type 0} (P : A → Type 0) (b : Bool) (r s : Result A Why) → Gives P r → Gives P s → Gives P (if b then r else s)
if_gives P true r s h k = h
if_gives P false r s h k = k

-- operands

ok_or_gives : {A : Type 0} (o : Option A) (why : Why) → why ≢ Memory → Gives Anything (ok_or o why)
ok_or_gives None why other = other
ok_or_gives (Some x) why other = tt

wanted_gives : {A : Type 0} (o : Option A) → Gives Anything (ok_or o Operand)
wanted_gives o = ok_or_gives o Operand (λ e. cc)

word_gives : (text : List ℕ) → Gives Anything (word text)
word_gives text = wanted_gives (only_word text)

register_gives : (text : List ℕ) → Gives Anything (register text)
register_gives text = then_gives Anything Anything (word text) _ (word_gives text) (λ name h. wanted_gives (register_named name))

input_gives : (text : List ℕ) → Gives Anything (input text)
input_gives text = then_gives Anything Anything (word text) _ (word_gives text) (λ name h. wanted_gives (input_named name))

digits_give : (text : List ℕ) → Gives Anything (digits_of text)
digits_give text = if_gives Anything (is_numeral text) (Ok text) _ tt (λ e. cc)

numeral_gives : (text : List ℕ) → Gives Anything (numeral text)
numeral_gives text = then_gives Anything Anything (word text) digits_of (word_gives text) (λ digits h. digits_give digits)

within_if : (few above below : Bool) (low high n : ℕ) → (above ≡ true → low ≤ n) → (below ≡ true → n ≤ high)
    → Gives (λ m. (low ≤ m) × (m ≤ high)) (if few && (above && below) then Ok n else Err Number)
within_if false above below low high n h k = λ e. cc
within_if true false below low high n h k = λ e. cc
within_if true true false low high n h k = λ e. cc
within_if true true true low high n h k = (h refl, k refl)

ranged_gives : (low high : ℕ) (digits : List ℕ) → Gives (λ m. (low ≤ m) × (m ≤ high)) (value_within low high digits)
ranged_gives low high digits =
    let n = digits_value 10 digits in
    within_if (nat_le (length digits) MAX_DIGITS) (nat_le low n) (nat_le n high) low high n (leb-true low n) (leb-true n high)

number_gives : (low high : ℕ) (text : List ℕ) → Gives (λ m. (low ≤ m) × (m ≤ high)) (number low high text)
number_gives low high text = then_gives Anything _ (numeral text) (value_within low high) (numeral_gives text) (λ digits h. ranged_gives low high digits)

both_give : {A B : Type 0} (P : A → Type 0) (Q : B → Type 0) (first : List ℕ → Result A Why) (rest : List ℕ → Result B Why)
    → ((text : List ℕ) → Gives P (first text)) → ((text : List ℕ) → Gives Q (rest text))
    → (text : List ℕ) → Gives (λ x. P x.0 × Q x.1) ((first then rest) text)
both_give P Q first rest h k text =
    then_gives Anything _ (ok_or (cut 44 text) Operand) _ (wanted_gives (cut 44 text)) (λ parts a.
    then_gives P _ (first parts.0) _ (h parts.0) (λ x p.
    then_gives Q _ (rest parts.1) _ (k parts.1) (λ y q. (p, q))))

two_gives : (text : List ℕ) → Gives (λ x. Anything x.0 × Anything x.1) (two_registers text)
two_gives = both_give Anything Anything register register register_gives register_gives

three_gives : (text : List ℕ) → Gives (λ x. Anything x.0 × (Anything x.1.0 × Anything x.1.1)) (three_registers text)
three_gives = both_give Anything _ register two_registers register_gives two_gives

register_input_gives : (text : List ℕ) → Gives (λ x. Anything x.0 × Anything x.1) (register_input text)
register_input_gives = both_give Anything Anything register input register_gives input_gives

register_number_gives : (text : List ℕ) → Gives (λ x. Anything x.0 × ((0 ≤ x.1) × (x.1 ≤ MAX_NUMBER))) (register_and_number 0 text)
register_number_gives = both_give Anything _ register (number 0 MAX_NUMBER) register_gives (number_gives 0 MAX_NUMBER)

two_registers_number_gives : (low : ℕ) (text : List ℕ) → Gives (λ x. Anything x.0 × (Anything x.1.0 × ((low ≤ x.1.1) × (x.1.1 ≤ MAX_NUMBER)))) (two_registers_number low text)
two_registers_number_gives low = both_give Anything _ register (register then number low MAX_NUMBER) register_gives (both_give Anything _ register (number low MAX_NUMBER) register_gives (number_gives low MAX_NUMBER))

word_chance_gives : (text : List ℕ) → Gives (λ x. (x.0 ≤ WORDS - 1) × (x.1 ≤ CERTAIN)) (word_chance text)
word_chance_gives text =
    then_gives (λ x. Anything x.0 × Anything x.1) _ ((numeral then numeral) text) _ (both_give Anything Anything numeral numeral numeral_gives numeral_gives text) (λ digits a.
    then_gives (λ m. (0 ≤ m) × (m ≤ WORDS - 1)) _ (value_within 0 (WORDS - 1) digits.0) _ (ranged_gives 0 (WORDS - 1) digits.0) (λ k p.
    then_gives (λ m. (0 ≤ m) × (m ≤ CERTAIN)) _ (value_within 0 CERTAIN digits.1) _ (ranged_gives 0 CERTAIN digits.1) (λ t q. (p.1, q.1))))

draw_gives : (text : List ℕ) → Gives (λ x. Anything x.0 × ((x.1.0 ≤ WORDS - 1) × (x.1.1 ≤ CERTAIN))) (register_word_chance text)
draw_gives = both_give Anything _ register word_chance register_gives word_chance_gives

pc_gives : (text : List ℕ) → Gives Anything (pc_named text)
pc_gives text =
    then_gives Anything Anything (ok_or (without_prefix (codes "@") text) Operand) _ (wanted_gives (without_prefix (codes "@") text)) (λ digits a.
    then_gives Anything Anything (digits_of digits) _ (digits_give digits) (λ more b.
    then_gives (λ m. (0 ≤ m) × (m ≤ MAX_NUMBER)) Anything (value_within 0 MAX_NUMBER more) _ (ranged_gives 0 MAX_NUMBER more) (λ pc c. tt)))

target_gives : (text : List ℕ) → Gives Anything (jump_target text)
target_gives text = then_gives Anything Anything (word text) target_named (word_gives text) (λ name h. if_gives Anything (is_label name) (Ok _) (pc_named name) tt (pc_gives name))

one_target_gives : (text : List ℕ) → Gives (λ x. Anything x.0 × Anything x.1) (register_target text)
one_target_gives = both_give Anything Anything register jump_target register_gives target_gives

two_target_gives : (text : List ℕ) → Gives (λ x. Anything x.0 × (Anything x.1.0 × Anything x.1.1)) (two_registers_target text)
two_target_gives = both_give Anything _ register register_target register_gives one_target_gives

none_gives : (text : List ℕ) → Gives Anything (no_operand text)
none_gives text = then_gives Anything Anything (word text) _ (word_gives text) (λ none h. if_gives Anything (length none == 0) (Ok tt) _ tt (λ e. cc))

-- instructions

abbrev Fits : InstrDraft → Type 0
Fits draft = IsInRange draft.instr

-- the draft that is made of operands
made : {A : Type 0} (P : A → Type 0) (r : Result A Why) (f : A → Result InstrDraft Why) → Gives P r → ((x : A) → P x → Gives Fits (f x)) → Gives Fits (r >>= f)
made P = then_gives P Fits

draft_fits : (x : Mnemonic) (text : List ℕ) → Gives Fits (draft_of x text)
draft_fits name.Num text = made (λ x. Anything x.0 × ((0 ≤ x.1) × (x.1 ≤ MAX_NUMBER))) (register_and_number 0 text) _ (register_number_gives text) (λ x h. tt)
draft_fits name.Get text = made (λ x. Anything x.0 × Anything x.1) (register_input text) _ (register_input_gives text) (λ x h. tt)
draft_fits name.Side text = made Anything (register text) _ (register_gives text) (λ x h. tt)
draft_fits name.Draw text = made (λ x. Anything x.0 × ((x.1.0 ≤ WORDS - 1) × (x.1.1 ≤ CERTAIN))) (register_word_chance text) _ (draw_gives text) (λ x h. (omega (arith, h.1.0), h.1.1))
draft_fits name.Copy text = made (λ x. Anything x.0 × Anything x.1) (two_registers text) _ (two_gives text) (λ x h. tt)
draft_fits name.Add text = made (λ x. Anything x.0 × (Anything x.1.0 × Anything x.1.1)) (three_registers text) _ (three_gives text) (λ x h. tt)
draft_fits name.Sub text = made (λ x. Anything x.0 × (Anything x.1.0 × Anything x.1.1)) (three_registers text) _ (three_gives text) (λ x h. tt)
draft_fits name.Mul text = made (λ x. Anything x.0 × (Anything x.1.0 × ((0 ≤ x.1.1) × (x.1.1 ≤ MAX_NUMBER)))) (two_registers_number 0 text) _ (two_registers_number_gives 0 text) (λ x h. tt)
draft_fits name.Div text = made (λ x. Anything x.0 × (Anything x.1.0 × ((1 ≤ x.1.1) × (x.1.1 ≤ MAX_NUMBER)))) (two_registers_number 1 text) _ (two_registers_number_gives 1 text) (λ x h. h.1.1.0)
draft_fits name.Min text = made (λ x. Anything x.0 × (Anything x.1.0 × Anything x.1.1)) (three_registers text) _ (three_gives text) (λ x h. tt)
draft_fits name.Max text = made (λ x. Anything x.0 × (Anything x.1.0 × Anything x.1.1)) (three_registers text) _ (three_gives text) (λ x h. tt)
draft_fits name.Not text = made (λ x. Anything x.0 × Anything x.1) (two_registers text) _ (two_gives text) (λ x h. tt)
draft_fits name.And text = made (λ x. Anything x.0 × (Anything x.1.0 × Anything x.1.1)) (three_registers text) _ (three_gives text) (λ x h. tt)
draft_fits name.Or text = made (λ x. Anything x.0 × (Anything x.1.0 × Anything x.1.1)) (three_registers text) _ (three_gives text) (λ x h. tt)
draft_fits name.Jump text = made Anything (jump_target text) _ (target_gives text) (λ x h. tt)
draft_fits name.JumpLess text = made (λ x. Anything x.0 × (Anything x.1.0 × Anything x.1.1)) (two_registers_target text) _ (two_target_gives text) (λ x h. tt)
draft_fits name.JumpAtMost text = made (λ x. Anything x.0 × (Anything x.1.0 × Anything x.1.1)) (two_registers_target text) _ (two_target_gives text) (λ x h. tt)
draft_fits name.JumpTrue text = made (λ x. Anything x.0 × Anything x.1) (register_target text) _ (one_target_gives text) (λ x h. tt)
draft_fits name.JumpFalse text = made (λ x. Anything x.0 × Anything x.1) (register_target text) _ (one_target_gives text) (λ x h. tt)
draft_fits name.Go text = made Anything (register text) _ (register_gives text) (λ x h. tt)
draft_fits name.Cross text = made Anything (no_operand text) _ (none_gives text) (λ x h. tt)
draft_fits name.Stay text = made Anything (no_operand text) _ (none_gives text) (λ x h. tt)

known_gives : {A : Type 0} (o : Option A) → Gives Anything (ok_or o Word)
known_gives o = ok_or_gives o Word (λ e. cc)

-- an instruction is in range, and there is room for it at pc
MayStand : ℕ → Option InstrDraft → Type 0
MayStand pc None = Unit {0}
MayStand pc (Some draft) = IsInRange draft.instr × (pc < MAX_INSTRUCTIONS)

room_gives : (pc : ℕ) (b : Bool) (r : Result InstrDraft Why) → (b ≡ true → pc < MAX_INSTRUCTIONS) → Gives Fits r
    → Gives (MayStand pc) (if b then (r >>= λ draft. Ok (Some draft)) else Err TooLong)
unfolding MayStand
room_gives pc true (Ok draft) room fits = (fits, room refl)
room_gives pc true (Err why) room fits = fits
room_gives pc false r room fits = λ e. cc

instruction_gives : (pc : ℕ) (parts : List ℕ × List ℕ) → Gives (MayStand pc) (instruction pc parts)
instruction_gives pc parts =
    then_gives Anything (MayStand pc) (ok_or (mnemonic_named parts.0) Word) _ (known_gives (mnemonic_named parts.0)) (λ x h.
    room_gives pc (nat_lt pc MAX_INSTRUCTIONS) (draft_of x parts.1) (ltb-true pc MAX_INSTRUCTIONS) (draft_fits x parts.1))

nothing_stands : (pc : ℕ) → MayStand pc None
unfolding MayStand
nothing_stands pc = tt

body_gives : (pc : ℕ) (text : List ℕ) → Gives (MayStand pc) (body pc text)
body_gives pc text = if_gives (MayStand pc) (length text == 0) (Ok None) (instruction pc (up_to_blank text)) (nothing_stands pc) (instruction_gives pc (up_to_blank text))

free_gives : (text : List ℕ) (o : Option ℕ) → Gives Anything (if_free text o)
free_gives text None = tt
free_gives text (Some pc) = λ e. cc

label_gives : (labels : Labels) (o : Option (List ℕ)) → Gives Anything (label_of labels o)
label_gives labels None = tt
label_gives labels (Some text) = then_gives Anything Anything (ok_or (only_word text) Word) (new_label labels) (known_gives (only_word text)) (λ name h. if_gives Anything (is_label name) (if_free name (labels name)) _ (free_gives name (labels name)) (λ e. cc))

line_gives : (labels : Labels) (pc : ℕ) (line : List ℕ) → Gives (λ (said : Line). MayStand pc said.draft) (line_content labels pc line)
line_gives labels pc line =
    let parts = label_and_rest (without_comment line) in
    then_gives Anything (λ (said : Line). MayStand pc said.draft) (label_of labels parts.0) _ (label_gives labels parts.0) (λ label h.
    then_gives (MayStand pc) (λ (said : Line). MayStand pc said.draft) (body pc (without_indent parts.1)) _ (body_gives pc (without_indent parts.1)) (λ draft k. k))

-- the two passes

-- the same for faults with a line number
abbrev Tells : {A : Type 0} → (A → Type 0) → Result A AsmFault → Type 0
Tells P r = MatchResult r P (λ fault. fault.why ≢ Memory)

then_tells : {A B : Type 0} (P : A → Type 0) (Q : B → Type 0) (r : Result A AsmFault) (f : A → Result B AsmFault)
    → Tells P r → ((x : A) → P x → Tells Q (f x)) → Tells Q (r >>= f)
then_tells P Q (Ok x) f h k = k x h
then_tells P Q (Err fault) f h k = h

in_line_tells : {A : Type 0} (P : A → Type 0) (number : ℕ) (r : Result A Why) → Gives P r → Tells P (in_line number r)
in_line_tells P number (Ok x) h = h
in_line_tells P number (Err why) h = h

-- the drafts that were read have instructions in range, and not too many
record Kept (drafts : List LineDraft) : Type 0 where
  few : length drafts ≤ MAX_INSTRUCTIONS
  fit : All (λ (read : LineDraft). IsInRange read.draft.instr) drafts

kept_more : (drafts : List LineDraft) (number : ℕ) (o : Option InstrDraft) → Kept drafts → MayStand (length drafts) o → Kept (with_draft drafts number o)
unfolding MayStand
kept_more drafts number None kept may = kept
kept_more drafts number (Some draft) kept may =
    let read : LineDraft = record { line = number; draft = draft } in
    record {
      few = omega (arith, length-append drafts (read ∷ []), may.1);
      fit = All-push (λ (one : LineDraft). IsInRange one.draft.instr) drafts read kept.fit may.0;
    }

first_tells : (parts : Parts) (number : ℕ) (lines : List (List ℕ)) → Kept parts.drafts → Tells (λ (all : Parts). Kept all.drafts) (first_pass parts number lines)
unfolding first_pass
first_tells parts number [] kept = kept
first_tells parts number (line ∷ left) kept =
    then_tells (λ (said : Line). MayStand (length parts.drafts) said.draft) (λ (all : Parts). Kept all.drafts) (in_line number (line_content parts.labels (length parts.drafts) line)) _
    (in_line_tells (λ (said : Line). MayStand (length parts.drafts) said.draft) number (line_content parts.labels (length parts.drafts) line) (line_gives parts.labels (length parts.drafts) line))
    (λ said may. first_tells (with_line parts number said) (number + 1) left (kept_more parts.drafts number said.draft kept may))

target_fits : (pc : ℕ) (i : Instr) → IsInRange i → IsInRange (with_target pc i)
target_fits pc (Num d n) h = h
target_fits pc (Get d k) h = h
target_fits pc (Side d) h = h
target_fits pc (Draw d k t) h = h
target_fits pc (Copy d a) h = h
target_fits pc (Add d a b) h = h
target_fits pc (Sub d a b) h = h
target_fits pc (Mul d a n) h = h
target_fits pc (Div d a n) h = h
target_fits pc (Min d a b) h = h
target_fits pc (Max d a b) h = h
target_fits pc (Not d a) h = h
target_fits pc (And d a b) h = h
target_fits pc (Or d a b) h = h
target_fits pc (Jump t) h = tt
target_fits pc (JumpLess a b t) h = tt
target_fits pc (JumpAtMost a b t) h = tt
target_fits pc (JumpTrue a t) h = tt
target_fits pc (JumpFalse a t) h = tt
target_fits pc (Go a) h = h
target_fits pc Cross h = h
target_fits pc Stay h = h

jump_tells : (line : ℕ) (i : Instr) (o : Option ℕ) → IsInRange i → Tells IsInRange (jump_to line i o)
jump_tells line i None h = λ e. cc
jump_tells line i (Some pc) h = target_fits pc i h

label_tells : (labels : Labels) (line : ℕ) (i : Instr) (o : Option (List ℕ)) → IsInRange i → Tells IsInRange (resolve_label labels line i o)
label_tells labels line i None h = h
label_tells labels line i (Some name) h = jump_tells line i (labels name) h

-- as many instructions, in range
record Finished (many : ℕ) (instrs : List Instr) : Type 0 where
  all : length instrs ≡ many
  fit : All IsInRange instrs

second_tells : (labels : Labels) (drafts : List LineDraft) → All (λ (read : LineDraft). IsInRange read.draft.instr) drafts → Tells (Finished (length drafts)) (second_pass labels drafts)
unfolding second_pass
second_tells labels [] fit = record { all = refl; fit = λ k d h. absurd (omega arith) }
second_tells labels (read ∷ drafts) fit =
    let P : LineDraft → Type 0 = λ one. IsInRange one.draft.instr in
    then_tells IsInRange (Finished (suc (length drafts))) (resolve labels read) _ (label_tells labels read.line read.draft.instr read.draft.label (All-head P read drafts fit)) (λ i h.
    then_tells (Finished (length drafts)) (Finished (suc (length drafts))) (second_pass labels drafts) _ (second_tells labels drafts (All-tail P read drafts fit)) (λ instrs k.
    record { all = omega (arith, k.all); fit = All-cons IsInRange i instrs h k.fit }))

-- a program's instructions
record Whole (instrs : List Instr) : Type 0 where
  some : 1 ≤ length instrs
  few : length instrs ≤ MAX_INSTRUCTIONS
  fit : All IsInRange instrs

whole_of : (many : ℕ) (r : Result (List Instr) AsmFault) → 1 ≤ many → many ≤ MAX_INSTRUCTIONS → Tells (Finished many) r → Tells Whole r
whole_of many (Ok instrs) some few h = record { some = omega (arith, h.all); few = omega (arith, h.all); fit = h.fit }
whole_of many (Err fault) some few h = h

instrs_tell : (parts : Parts) (b : Bool) → (length parts.drafts == 0) ≡ b → Kept parts.drafts → Tells Whole (instrs_of parts)
instrs_tell parts true e kept = rw e (λ f. cc)
instrs_tell parts false e kept =
    rw e (whole_of (length parts.drafts) (second_pass parts.labels parts.drafts) (omega (arith, eqb-false (length parts.drafts) 0 e)) kept.few (second_tells parts.labels parts.drafts kept.fit))

-- any lines are a program or have a first fault
pub lines_say : (kind : Kind) (lines : List (List ℕ)) → MatchResult (code_of kind lines) IsValidProgram (λ fault. fault.why ≢ Memory)
lines_say kind lines =
    then_tells (λ (all : Parts). Kept all.drafts) IsValidProgram (first_pass no_parts 1 lines) _
    (first_tells no_parts 1 lines (record { few = omega arith; fit = λ k d h. absurd (omega arith) })) (λ parts kept.
    then_tells Whole IsValidProgram (instrs_of parts) _ (instrs_tell parts (length parts.drafts == 0) refl kept) (λ instrs h.
    record { some = h.some; few = h.few; in_range = h.fit }))

pub something : TextsHaveMeaning
something kind text = lines_say kind (lines_of text)
