-- Reading a line of a program's text: its label and its instruction.
use Rattle.std.specs.Prelude.{ℕ, ◌==◌, List, length, nat_lt, Option, None, Some, ok_or, Result, Ok, Err}
use Rattle.std.specs.Prelude.{if◌then◌else◌}
use Rattle.trlab_code.specs.declared.instruction.Instr.{Instr, TheVariants.{Num, Get, Side, Draw, Copy, Add}}
use Rattle.trlab_code.specs.declared.instruction.Instr.TheVariants.{Sub, Mul, Div, Min, Max, Not, And, Or}
use Rattle.trlab_code.specs.declared.instruction.Instr.TheVariants.{Jump, JumpLess, JumpAtMost, JumpTrue}
use Rattle.trlab_code.specs.declared.instruction.Instr.TheVariants.{JumpFalse, Go, Cross, Stay}
use Rattle.trlab_bounds.specs.declared.programs.TheConstants.{MAX_INSTRUCTIONS}
use Rattle.trlab_lines.specs.Lines.{without_comment, label_and_rest, without_indent, up_to_blank, only_word}
use Rattle.trlab_asm.specs.{Names.mnemonic_named, Operands.{◌>>=◌, WrittenTarget, is_label, no_operand}}
use Rattle.trlab_asm.specs.Operands.{register, two_registers, three_registers, register_input}
use Rattle.trlab_asm.specs.Operands.{register_and_number, two_registers_number, register_word_chance}
use Rattle.trlab_asm.specs.Operands.{jump_target, register_target, two_registers_target}
use Rattle.trlab_asm.specs.declared.fault.Why.{Why, TheVariants.{Word, LabelTwice, TooLong}}
use Rattle.trlab_asm.specs.declared.names.Mnemonic.{Mnemonic}
use Rattle.trlab_asm.specs.declared.names.Mnemonic.TheVariants as name

-- an instruction as it was read. If its target is written as a label, `label` is this label, and the target
-- is still 0
pub record InstrDraft : Type 0 where
  pub instr : Instr
  pub label : Option (List ℕ)

-- the draft of an instruction that names no label
abbrev pub draft_without_label : Instr → Result InstrDraft Why
draft_without_label instr = Ok (record { instr = instr; label = None })

-- a jump as it was read, from its target: `instr` gives the jump to the target's pc, and the target's label,
-- if it has one, is kept to be resolved
abbrev pub jump_draft : (ℕ → Instr) → WrittenTarget → Result InstrDraft Why
jump_draft instr to = Ok (record { instr = instr to.pc; label = to.label })

-- the instruction as it is read, of this name and with this text of its operands; or the fault of the
-- operands
abbrev pub draft_of : Mnemonic → List ℕ → Result InstrDraft Why
draft_of name.Num text = register_and_number 0 text >>= λ x. draft_without_label (Num x.0 x.1)
draft_of name.Get text = register_input text >>= λ x. draft_without_label (Get x.0 x.1)
draft_of name.Side text = register text >>= λ d. draft_without_label (Side d)
draft_of name.Draw text = register_word_chance text >>= λ x. draft_without_label (Draw x.0 x.1.0 x.1.1)
draft_of name.Copy text = two_registers text >>= λ x. draft_without_label (Copy x.0 x.1)
draft_of name.Add text = three_registers text >>= λ x. draft_without_label (Add x.0 x.1.0 x.1.1)
draft_of name.Sub text = three_registers text >>= λ x. draft_without_label (Sub x.0 x.1.0 x.1.1)
draft_of name.Mul text = two_registers_number 0 text >>= λ x. draft_without_label (Mul x.0 x.1.0 x.1.1)
draft_of name.Div text = two_registers_number 1 text >>= λ x. draft_without_label (Div x.0 x.1.0 x.1.1)
draft_of name.Min text = three_registers text >>= λ x. draft_without_label (Min x.0 x.1.0 x.1.1)
draft_of name.Max text = three_registers text >>= λ x. draft_without_label (Max x.0 x.1.0 x.1.1)
draft_of name.Not text = two_registers text >>= λ x. draft_without_label (Not x.0 x.1)
draft_of name.And text = three_registers text >>= λ x. draft_without_label (And x.0 x.1.0 x.1.1)
draft_of name.Or text = three_registers text >>= λ x. draft_without_label (Or x.0 x.1.0 x.1.1)
draft_of name.Jump text = jump_target text >>= jump_draft Jump
draft_of name.JumpLess text = two_registers_target text >>= λ x. jump_draft (JumpLess x.0 x.1.0) x.1.1
draft_of name.JumpAtMost text = two_registers_target text >>= λ x. jump_draft (JumpAtMost x.0 x.1.0) x.1.1
draft_of name.JumpTrue text = register_target text >>= λ x. jump_draft (JumpTrue x.0) x.1
draft_of name.JumpFalse text = register_target text >>= λ x. jump_draft (JumpFalse x.0) x.1
draft_of name.Go text = register text >>= λ a. draft_without_label (Go a)
draft_of name.Cross text = no_operand text >>= λ none. draft_without_label Cross
draft_of name.Stay text = no_operand text >>= λ none. draft_without_label Stay

-- the instruction at pc as it is read, from its name and the text after the name: the name is checked first,
-- then that pc is below MAX_INSTRUCTIONS, then the operands
abbrev pub instruction : ℕ → List ℕ × List ℕ → Result (Option InstrDraft) Why
instruction pc parts = do
  name ← ok_or (mnemonic_named parts.0) Word
  if nat_lt pc MAX_INSTRUCTIONS then (draft_of name parts.1 >>= λ draft. Ok (Some draft)) else Err TooLong

-- the instruction at pc as it is read, from a text without leading blanks; `None` if the text is empty
abbrev pub body : ℕ → List ℕ → Result (Option InstrDraft) Why
body pc text = if length text == 0 then Ok None else instruction pc (up_to_blank text)

-- the labels of a text: the pc of each text that is a label, and `None` for other texts
abbrev pub Labels : Type 0
Labels = List ℕ → Option ℕ

-- a label as the label of a line, if it has no pc yet; the fault `LabelTwice` if an earlier line gave it one
abbrev pub if_free : List ℕ → Option ℕ → Result (Option (List ℕ)) Why
if_free text None = Ok (Some text)
if_free text (Some pc) = Err LabelTwice

-- a word as the label of a line: the fault `Word` if it is not a label, and `LabelTwice` if an earlier line
-- has it
abbrev pub new_label : Labels → List ℕ → Result (Option (List ℕ)) Why
new_label labels text = if is_label text then if_free text (labels text) else Err Word

-- the label of a line, if it has one: the only word of the text before `:`, which must be a label that no
-- earlier line has
abbrev pub label_of : Labels → Option (List ℕ) → Result (Option (List ℕ)) Why
label_of labels None = Ok None
label_of labels (Some text) = ok_or (only_word text) Word >>= new_label labels

-- the content of a line: a label, an instruction as it was read, both or neither
pub record Line : Type 0 where
  pub label : Option (List ℕ)
  pub draft : Option InstrDraft

-- the content of a line, from the text before its `:`, if it has one, and the text after it: the label is
-- checked before the instruction
abbrev pub content_of_parts : Labels → ℕ → Option (List ℕ) × List ℕ → Result Line Why
content_of_parts labels pc parts = do
  label ← label_of labels parts.0
  draft ← body pc (without_indent parts.1)
  Ok (record { label = label; draft = draft })

-- the content of a line: its label, if it has one, and its instruction, if it has one, which is then at pc;
-- `labels` has the labels of earlier lines
abbrev pub line_content : Labels → ℕ → List ℕ → Result Line Why
line_content labels pc line = content_of_parts labels pc (label_and_rest (without_comment line))
