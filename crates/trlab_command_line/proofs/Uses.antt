-- One use of an argument that takes one value, or is a flag or a request for help: if it is not a fault, it
-- gives one value, which has passed the argument's parser.
use Rattle.std.proofs.Common.{◌≡◌, ◌&&◌, ℕ, zero, suc, Bool, cond, true, false, refl, arith, List, [], ◌∷◌}
use Rattle.std.proofs.Common.{length, Some, ◌==◌, ne_eqb}
use Rattle.clap.specs.{Kinds.{Kinds, range_kinds}, declared.error.kind.ErrorKind.TheVariants.ArgumentConflict}
use Rattle.clap.specs.{Values.refused_kind, declared.parser.matches.ValueSource.TheVariants.CommandLine}
use Rattle.clap.specs.{declared.builder.action.ArgAction.TheVariants.{Set, SetTrue, Help}, Takes.value_passes}
use Rattle.clap.specs.Walk.{Row, Rule, Text, action_of, most_values, values_or_missing, without, has_row}
use Rattle.clap.specs.{Walk.{reading_by, used, with_values}, Facts.{parser_of_value, unwrap_or_range}}
use Rattle.clap.specs.Faults.{action_fault, repeat_fault, set_fault, use_fault, values_fault}
use Rattle.trlab_command_line.proofs.Rows.{none_fails}

-- an argument that takes one value per use, and is used once
pub record TakesOne (a : Rule) : Type 0 where
  pub action : a.action ≡ Some Set
  pub range : a.range ≡ Some (record { start_inclusive = 1; end_inclusive = 1 })

-- a flag that may be given once, and the value of its use
pub record IsFlag (a : Rule) : Type 0 where
  pub action : a.action ≡ Some SetTrue
  pub range : a.range ≡ Some (record { start_inclusive = 0; end_inclusive = 0 })
  pub text : Text
  pub missing : a.missing ≡ text ∷ []

-- an argument that shows the help
pub record IsHelp (a : Rule) : Type 0 where
  pub action : a.action ≡ Some Help
  pub range : a.range ≡ Some (record { start_inclusive = 0; end_inclusive = 0 })

-- an argument that needs one value gets one
one_value : (n : ℕ) → range_kinds 1 1 n ≡ [] → n ≡ 1
one_value zero e = cc
one_value (suc zero) e = refl
one_value (suc (suc k)) e =
    let some : (suc (suc k) == 0) ≡ false = ne_eqb _ _ (λ h. omega arith) in
    let more : (1 == suc (suc k)) ≡ false = ne_eqb _ _ (λ h. omega arith) in
    let bad = rw (some, more) at e in
    cc

-- an argument that takes no value gets none
no_value : (n : ℕ) → range_kinds 0 0 n ≡ [] → n ≡ 0
no_value zero e = refl
no_value (suc k) e =
    let more : (0 == suc k) ≡ false = ne_eqb _ _ (λ h. omega arith) in
    let bad = rw more at e in
    cc

-- the errors of one use: in the number of its values, or in its action on them
abbrev count_amiss : Rule → List Text → Kinds
count_amiss a values = range_kinds (unwrap_or_range a.range).start_inclusive (most_values a) (length values)

abbrev action_amiss : Rule → List Text → List Row → Kinds
action_amiss a values rows = action_fault (action_of a) false a (values_or_missing a values) rows

-- showing the help is always a fault
pub help_fault : (a : Rule) (values : List Text) (rows : List Row) → IsHelp a → use_fault false a values rows ≡ [] → ⊥
help_fault a values rows help e =
    let asked : action_amiss a values rows ≡ [] = (none_fails (count_amiss a values) (action_amiss a values rows) e).1 in
    let bad = rw help.action at asked in
    cc

-- the first use gives one value, which passes its parser
abbrev pub UsesOne : Rule → List Text → List Row → Type 0
UsesOne a values rows = (v : Text) × (values_or_missing a values ≡ v ∷ []) × (has_row a.id rows ≡ false) × (value_passes a v ≡ true)

pub values_pass : (a : Rule) (v : Text) (vs : List Text) → values_fault a (v ∷ vs) ≡ [] → value_passes a v ≡ true
values_pass a v vs e = go (value_passes a v) (none_fails _ _ e).0
  where
    go : (b : Bool) → cond b [] (refused_kind (parser_of_value a.parser) ∷ []) ≡ [] → b ≡ true
    go true h = refl
    go false h = cc

set_use : (a : Rule) (v : Text) (rows : List Row) → set_fault false a (v ∷ []) rows ≡ [] → (has_row a.id rows ≡ false) × (value_passes a v ≡ true)
set_use a v rows e =
    let parts = none_fails (repeat_fault false a.id rows) (values_fault a (v ∷ [])) e in
    (first (has_row a.id rows) parts.0, values_pass a v [] parts.1)
  where
    first : (b : Bool) → cond (b && true) (ArgumentConflict ∷ []) [] ≡ [] → b ≡ false
    first true h = cc
    first false h = refl

pub one_use : (a : Rule) (values : List Text) (rows : List Row) → TakesOne a → use_fault false a values rows ≡ [] → UsesOne a values rows
one_use a [] rows is e =
    let count = rw is.range at (none_fails (count_amiss a []) (action_amiss a [] rows) e).0 in
    cc
one_use a (v ∷ w ∷ vs) rows is e =
    let count : range_kinds 1 1 (length (v ∷ w ∷ vs)) ≡ [] = rw is.range at (none_fails (count_amiss a (v ∷ w ∷ vs)) (action_amiss a (v ∷ w ∷ vs) rows) e).0 in
    let bad = one_value (length (v ∷ w ∷ vs)) count in
    absurd (omega arith)
one_use a (v ∷ []) rows is e =
    let amiss : set_fault false a (v ∷ []) rows ≡ [] = rw is.action at (none_fails (count_amiss a (v ∷ [])) (action_amiss a (v ∷ []) rows) e).1 in
    let used = set_use a v rows amiss in
    (v, refl, used.0, used.1)

pub flag_use : (a : Rule) (values : List Text) (rows : List Row) → IsFlag a → use_fault false a values rows ≡ [] → UsesOne a values rows
flag_use a (v ∷ vs) rows is e =
    let count : range_kinds 0 0 (length (v ∷ vs)) ≡ [] = rw is.range at (none_fails (count_amiss a (v ∷ vs)) (action_amiss a (v ∷ vs) rows) e).0 in
    let bad = no_value (length (v ∷ vs)) count in
    absurd (omega arith)
flag_use a [] rows is e =
    let amiss : set_fault false a (is.text ∷ []) rows ≡ [] = rw (is.action, is.missing) at (none_fails (count_amiss a []) (action_amiss a [] rows) e).1 in
    let used = set_use a is.text rows amiss in
    (is.text, is.missing, used.0, used.1)

-- the effect of a use on the rows
abbrev pub used_so : Rule → List Text → List Row → List Row
used_so a values rows = with_values a.id (reading_by a) CommandLine (values_or_missing a values) (without a.id rows)

pub one_used : (a : Rule) (values : List Text) (rows : List Row) → TakesOne a → used a values rows ≡ used_so a values rows
one_used a values rows is = rw is.action refl

pub flag_used : (a : Rule) (values : List Text) (rows : List Row) → IsFlag a → used a values rows ≡ used_so a values rows
flag_used a values rows is = rw is.action refl
