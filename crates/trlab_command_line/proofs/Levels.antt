-- The arguments of each command that its matches contain, if its words have no fault.
use Rattle.std.proofs.Common.{◌≡◌, ◌∙◌, ℕ, false, refl, sym, ap, subst, inl, inr, List, [], Some, codes, pos}
use Rattle.std.proofs.Common.{slice_index_or}
use Rattle.clap.specs.{Walk.{Row, Rule, Text, arg_by_id, nothing_held, rows_after}, Faults.level_fault}
use Rattle.clap.{specs.Simple.{Shape, filled, with_index}, proofs.ValueTestLemmas.accepts-Accepts}
use Rattle.clap.specs.declared.builder.value_parser.ValueParser.TheVariants.{Bool as OfBool, Signed}
use Rattle.trlab_command_line.specs.CommandLine.{flag, number_argument, number_option, HasFlagValue}
use Rattle.trlab_command_line.specs.CommandLine.{HasValueFrom, MayHaveNumber, IsEntered}
use Rattle.trlab_command_line.proofs.CommandLine.{line, named_by}
use Rattle.trlab_command_line.proofs.{Options.{AllKnown, own_if_given, own_value}, Rows.some_same}

-- a command: its name, the values that a parse reads of it, and the kinds of its arguments
pub record Command : Type 0 where
  pub name : Text
  pub level : Shape
  pub named : named_by line name ≡ Some level
  pub once : record level { args_override_self = false } ≡ level
  pub all : AllKnown level.rules level.rules

-- a property of the matches of words without a fault is one of the matches of a command that was entered
of_entered : (c : Command) (P : List Row → Type 0) (rows : List Row) → IsEntered c.name rows
    → ((words : List Text) → level_fault (record c.level { args_override_self = false }) [] nothing_held words false [] ≡ [] → P (rows_after c.level.rules [] words)) → P rows
of_entered c P rows e holds =
    let words = e.1.0 in
    let taken = e.1.1 in
    let same : taken.0 ≡ c.level = some_same taken.0 c.level (sym taken.1 ∙ c.named) in
    let passes : level_fault (record c.level { args_override_self = false }) [] nothing_held words false [] ≡ [] =
    subst (λ s. level_fault s [] nothing_held words false [] ≡ []) (same ∙ sym c.once) taken.2 in
    let here : rows ≡ rows_after c.level.rules [] words = taken.3 ∙ ap (λ (s : Shape). rows_after s.rules [] words) same in
    subst P (sym here) (holds words passes)

-- an option that takes a number
pub option_of : (c : Command) (name default : Text) (least most : ℕ) → arg_by_id c.level.rules name ≡ Some (filled (number_option name least most default))
    → (rows : List Row) → IsEntered c.name rows → (v : Text) × HasValueFrom name least most rows v
option_of c name default least most at rows e =
    of_entered c (λ rs. (v : Text) × HasValueFrom name least most rs v) rows e (λ words passes.
    let value = own_value c.level.rules c.all c.level (filled (number_option name least most default)) default words at refl passes in
    (value.0, (value.1, accepts-Accepts false (Signed (pos least) (pos most)) value.0 value.2)))

-- a flag
pub flag_of : (c : Command) (name : Text) → arg_by_id c.level.rules name ≡ Some (filled (flag name)) → (rows : List Row) → IsEntered c.name rows → HasFlagValue name rows
flag_of c name at rows e =
    of_entered c (HasFlagValue name) rows e (λ words passes.
    let value = own_value c.level.rules c.all c.level (filled (flag name)) (codes "false") words at refl passes in
    (value.0, value.1, accepts-Accepts false OfBool value.0 value.2))

-- the number of `explain`
abbrev second : Rule
second = with_index 2 (filled number_argument)

pub number_of : (c : Command) → arg_by_id c.level.rules (codes "number") ≡ Some second → (rows : List Row) → IsEntered c.name rows
    → MayHaveNumber (codes "number") rows
number_of c at rows e =
    of_entered c (MayHaveNumber (codes "number")) rows e (λ words passes. elim (own_if_given c.level.rules c.all c.level second words at passes) [
      | inl none ↦ inl none
      | inr value ↦ inr (value.0, (value.1, accepts-Accepts false (Signed (pos 0) (pos 4294967295)) value.0 value.2))
    ])

-- the commands
abbrev nothing : Shape
nothing = line.top

abbrev pub run : Command
run = record {
  name = codes "run";
  level = slice_index_or line.subs 1 nothing;
  named = refl;
  once = refl;
  all = (
    (inl (record { action = refl; range = refl }), refl),
    (
      (inl (record { action = refl; range = refl }), refl),
      (
        (inl (record { action = refl; range = refl }), refl),
        (
          (inr (inl (record { action = refl; range = refl; text = codes "true"; missing = refl })), refl),
          ((inr (inr (record { action = refl; range = refl })), refl), tt),
        ),
      ),
    ),
  );
}

abbrev pub sweep : Command
sweep = record {
  name = codes "sweep";
  level = slice_index_or line.subs 2 nothing;
  named = refl;
  once = refl;
  all = (
    (inl (record { action = refl; range = refl }), refl),
    (
      (inl (record { action = refl; range = refl }), refl),
      (
        (inr (inl (record { action = refl; range = refl; text = codes "true"; missing = refl })), refl),
        ((inr (inr (record { action = refl; range = refl })), refl), tt),
      ),
    ),
  );
}

abbrev pub series : Command
series = record {
  name = codes "series";
  level = slice_index_or line.subs 3 nothing;
  named = refl;
  once = refl;
  all = (
    (inl (record { action = refl; range = refl }), refl),
    (
      (inl (record { action = refl; range = refl }), refl),
      (
        (inl (record { action = refl; range = refl }), refl),
        (
          (inr (inl (record { action = refl; range = refl; text = codes "true"; missing = refl })), refl),
          ((inr (inr (record { action = refl; range = refl })), refl), tt),
        ),
      ),
    ),
  );
}

abbrev pub explain : Command
explain = record {
  name = codes "explain";
  level = slice_index_or line.subs 4 nothing;
  named = refl;
  once = refl;
  all = (
    (inl (record { action = refl; range = refl }), refl),
    (
      (inl (record { action = refl; range = refl }), refl),
      (
        (inr (inl (record { action = refl; range = refl; text = codes "true"; missing = refl })), refl),
        ((inr (inr (record { action = refl; range = refl })), refl), tt),
      ),
    ),
  );
}
