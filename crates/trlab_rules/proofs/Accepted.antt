-- The verifier accepts the programs of the standard rules for every probability: a table of notes checks for
-- each program, and no note depends on a probability.
use Rattle.std.proofs.Common.{ℕ, ◌+◌, refl, List, [], ◌∷◌, true, false}
use Rattle.trlab_bounds.specs.declared.roads.TheConstants.{MAX_LIMIT, MAX_GAP}
use Rattle.trlab_code.specs.declared.program.Kind.TheVariants.{Motion, Change}
use Rattle.trlab_code.specs.declared.instruction.{Register.{Register, TheVariants.{R0, R1, R2}}, Input.Input}
use Rattle.trlab_code.specs.{declared.instruction.Input.TheVariants.{Limit, Gap}, Machine.update}
use Rattle.trlab_code.specs.declared.instruction.Variable.TheVariants as variable
use Rattle.trlab_notes.specs.declared.note.AbstractValue.{AbstractValue, TheVariants.{Unknown, Between}}
use Rattle.trlab_notes.specs.{declared.note.AbstractValue.TheVariants.Implies, Notes.value_with_side}
use Rattle.trlab_notes.specs.{Notes.{known_level, entry}, Transfer.{assign, refine_order, refine_flag}}
use Rattle.trlab_verify.specs.Verdict.{IsAccepted}
use Rattle.trlab_rules.specs.Standard.{nasch_program, vdr_program, rickert_program}
use Rattle.trlab_rules.proofs.KnownNotes.{Fact, Known, accepted_by}

-- the register is at most the input
abbrev within : Register → Input → Fact
within r k = record { one = variable.Register r; other = variable.Input k; level = 1 }

-- notes about the first registers only
abbrev saying : List AbstractValue → Known
saying values = record { values = values; facts = []; side = false }

-- the same, with facts about the order
abbrev knowing : List AbstractValue → List Fact → Known
knowing values facts = record { values = values; facts = facts; side = false }

-- the same, and the side cell is empty
abbrev beside_empty : List AbstractValue → Known
beside_empty values = record { values = values; facts = []; side = true }

abbrev speed : AbstractValue
speed = Between 0 MAX_LIMIT

abbrev one_more : AbstractValue
one_more = Between 0 (MAX_LIMIT + 1)

abbrev limit : AbstractValue
limit = Between 1 MAX_LIMIT

abbrev gap : AbstractValue
gap = Between 0 MAX_GAP

abbrev one : AbstractValue
one = Between 1 1

abbrev flag : AbstractValue
flag = Implies false

-- 0 or 1: the smaller of 1 and the speed in R0
abbrev some_one : AbstractValue
some_one = Between 0 1

-- the speed in R0 is within the limit and the gap
abbrev safe : List Fact
safe = within R0 Limit ∷ within R0 Gap ∷ []

-- and the number in R1 is at most that speed
abbrev safe_less : List Fact
safe_less = record { one = variable.Register R1; other = variable.Register R0; level = 1 } ∷ safe

abbrev nasch_table : List Known
nasch_table =
    saying []
    ∷ saying (speed ∷ [])
    ∷ saying (speed ∷ one ∷ [])
    ∷ saying (one_more ∷ one ∷ [])
    ∷ knowing (one_more ∷ one ∷ limit ∷ []) (within R2 Limit ∷ [])
    ∷ knowing (speed ∷ one ∷ []) (within R0 Limit ∷ [])
    ∷ knowing (speed ∷ one ∷ gap ∷ []) (within R0 Limit ∷ within R2 Gap ∷ [])
    ∷ knowing (speed ∷ one ∷ []) safe
    ∷ knowing (speed ∷ one ∷ Unknown ∷ flag ∷ []) safe
    ∷ knowing (speed ∷ one ∷ []) safe
    ∷ knowing (speed ∷ some_one ∷ []) safe_less
    ∷ knowing (speed ∷ []) safe
    ∷ []

pub nasch_accepted : (p : ℕ) → IsAccepted Motion (nasch_program p)
unfolding value_with_side known_level entry assign refine_order refine_flag update
nasch_accepted p = accepted_by Motion (nasch_program p) nasch_table refl refl

abbrev vdr_table : List Known
vdr_table =
    saying []
    ∷ saying (speed ∷ [])
    ∷ saying (speed ∷ one ∷ [])
    ∷ saying (speed ∷ one ∷ [])
    ∷ saying (speed ∷ one ∷ Unknown ∷ flag ∷ [])
    ∷ saying (speed ∷ one ∷ [])
    ∷ saying (speed ∷ one ∷ Unknown ∷ flag ∷ [])
    ∷ saying (one_more ∷ one ∷ Unknown ∷ flag ∷ [])
    ∷ knowing (one_more ∷ one ∷ limit ∷ flag ∷ []) (within R2 Limit ∷ [])
    ∷ knowing (speed ∷ one ∷ Unknown ∷ flag ∷ []) (within R0 Limit ∷ [])
    ∷ knowing (speed ∷ one ∷ gap ∷ flag ∷ []) (within R0 Limit ∷ within R2 Gap ∷ [])
    ∷ knowing (speed ∷ one ∷ Unknown ∷ flag ∷ []) safe
    ∷ knowing (speed ∷ one ∷ []) safe
    ∷ knowing (speed ∷ some_one ∷ []) safe_less
    ∷ knowing (speed ∷ []) safe
    ∷ []

pub vdr_accepted : (p p0 : ℕ) → IsAccepted Motion (vdr_program p p0)
unfolding value_with_side known_level entry assign refine_order refine_flag update
vdr_accepted p p0 = accepted_by Motion (vdr_program p p0) vdr_table refl refl

abbrev rickert_table : List Known
rickert_table =
    saying []
    ∷ saying (Implies true ∷ [])
    ∷ beside_empty []
    ∷ beside_empty (Unknown ∷ speed ∷ [])
    ∷ beside_empty (Unknown ∷ speed ∷ one ∷ [])
    ∷ beside_empty (Unknown ∷ one_more ∷ [])
    ∷ beside_empty (Unknown ∷ one_more ∷ gap ∷ [])
    ∷ beside_empty (Unknown ∷ one_more ∷ [])
    ∷ beside_empty (Unknown ∷ one_more ∷ gap ∷ [])
    ∷ beside_empty []
    ∷ beside_empty (Unknown ∷ Unknown ∷ gap ∷ [])
    ∷ beside_empty (Unknown ∷ Unknown ∷ gap ∷ limit ∷ [])
    ∷ beside_empty []
    ∷ beside_empty (Unknown ∷ Unknown ∷ Unknown ∷ flag ∷ [])
    ∷ beside_empty []
    ∷ saying []
    ∷ []

pub rickert_accepted : (c : ℕ) → IsAccepted Change (rickert_program c)
unfolding value_with_side known_level entry assign refine_order refine_flag update
rickert_accepted c = accepted_by Change (rickert_program c) rickert_table refl refl
