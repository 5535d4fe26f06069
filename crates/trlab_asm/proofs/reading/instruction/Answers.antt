use Rattle.std.proofs.Common.{◌≡◌, ◌∙◌, ℕ, List, Bool, true, false, ap, sym, rules, nat_lt, Option, Some}
use Rattle.std.proofs.Common.{ok_or, Result, Ok, Err, if◌then◌else◌, lt-ltb, le-ltb}
use Rattle.trlab_bounds.specs.declared.programs.TheConstants.{MAX_INSTRUCTIONS}
use Rattle.trlab_asm.specs.{Operands.{◌>>=◌}, Reading.{InstrDraft, draft_of}, declared.fault.Why.Why}
use Rattle.trlab_asm.specs.declared.{fault.Why.TheVariants.{Word, TooLong}, names.Mnemonic.Mnemonic}
use Rattle.trlab_asm.proofs.reading.instruction.Goals as goal

-- an instruction that was read
abbrev drafted : Result InstrDraft Why → Result (Option InstrDraft) Why
drafted draft = draft >>= λ draft. Ok (Some draft)

-- an instruction whose name is known, if there is room for it
abbrev with_room : Mnemonic → List ℕ → Bool → Result (Option InstrDraft) Why
with_room name text room = if room then drafted (draft_of name text) else Err TooLong

-- a word, by the instruction whose name it is
abbrev of_name : ℕ → List ℕ → Option Mnemonic → Result (Option InstrDraft) Why
of_name pc text found = ok_or found Word >>= λ name. with_room name text (nat_lt pc MAX_INSTRUCTIONS)

pub returns-then-pc-lt-MAX_INSTRUCTIONS-clause-value : goal.returns-then-pc-lt-MAX_INSTRUCTIONS-clause-value
returns-then-pc-lt-MAX_INSTRUCTIONS-clause-value c =
    let read : c.map.result ≡ drafted c.read_draft.result = search rules in
    let room : nat_lt c.args.pc MAX_INSTRUCTIONS ≡ true = lt-ltb c.args.pc MAX_INSTRUCTIONS c.if-pc-lt-MAX_INSTRUCTIONS.true in
    read ∙ (ap drafted c.read_draft.ensures ∙ (ap (with_room c.in-Some.name c.args.operands.now) (sym room) ∙ ap (of_name c.args.pc c.args.operands.now) c.in-Some.ensures))

pub returns-else-pc-lt-MAX_INSTRUCTIONS-clause-value : goal.returns-else-pc-lt-MAX_INSTRUCTIONS-clause-value
returns-else-pc-lt-MAX_INSTRUCTIONS-clause-value c =
    let none : nat_lt c.args.pc MAX_INSTRUCTIONS ≡ false = le-ltb c.args.pc MAX_INSTRUCTIONS c.if-pc-lt-MAX_INSTRUCTIONS.false in
    ap (with_room c.in-Some.name c.args.operands.now) (sym none) ∙ ap (of_name c.args.pc c.args.operands.now) c.in-Some.ensures

pub returns-in_default-clause-value : goal.returns-in_default-clause-value
returns-in_default-clause-value c = ap (of_name c.args.pc c.args.operands.now) c.in_default.ensures
