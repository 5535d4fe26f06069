-- The request of a command line that is only the name of a command.
use Rattle.std.proofs.Common.{◌≡◌, ◌∙◌, ℕ, Bool, true, false, refl, sym, ap, List, [], ◌∷◌, Option, None}
use Rattle.std.proofs.{Common.{Some, Result, Ok, codes, option_map, bytes_eq}, lemmas.Bool.{false≢true}}
use Rattle.std.{proofs.lemmas.Slice.Eq.bytes_eq-Decides, specs.Str.Parse.{digits_value, without_leading_plus}}
use Rattle.clap.specs.{Walk.{Row, Text, one_of}, Simple.subcommand_of}
use Rattle.clap.{specs.declared.error.kind.ErrorKind.ErrorKind, proofs.OnLiterals.clap_on_literals}
use Rattle.trlab_command_line.specs.CommandLine.{command_line, request_from_matches, GivesFlag, GivesNumber}
use Rattle.trlab_command_line.{specs.CommandLine.{IsRequestOf, command_name}, proofs.Rows.some_same}
use Rattle.trlab_command_line.specs.declared.arguments.explain.ExplainRequest.{ExplainRequest}
use Rattle.trlab_command_line.specs.declared.arguments.explain.ExplainRequest.TheVariants.{Text as OfText}
use Rattle.trlab_command_line.specs.declared.arguments.Request.{Request, TheVariants.Sweep}
use Rattle.trlab_command_line.specs.declared.arguments.Request.TheVariants.{Check, Explain, Run, Series}
use Rattle.trlab_explain.specs.declared.explain.Form.TheVariants.{Text as Lines}

-- the request has the name of the command that was entered
pub asks_its_name : (name : Text) (rows : List Row) (request : Request) → IsRequestOf (Some (name, rows)) request → name ≡ command_name request
asks_its_name name rows request a = ap (λ t. t.0) (some_same _ _ a.1)

-- no command has another name too
differ : (a b : Text) → bytes_eq a b ≡ false → a ≡ b → ⊥
differ a b other is = false≢true (sym other ∙ (bytes_eq-Decides a b).1 is)

-- the number of an option with a numeral
number_is : (option numeral : Text) (rows : List Row) (n : ℕ) → one_of option rows ≡ Some numeral → GivesNumber option rows n
    → n ≡ digits_value 10 (without_leading_plus numeral)
number_is option numeral rows n has gives =
    let same : gives.0 ≡ numeral = some_same gives.0 numeral (sym gives.1 ∙ has) in
    sym gives.2 ∙ ap (λ t. digits_value 10 (without_leading_plus t)) same

-- a flag that is not given is false
flag_is : (rows : List Row) (given : Bool) → one_of (codes "progress") rows ≡ Some (codes "false") → GivesFlag (codes "progress") rows given → given ≡ false
flag_is rows false has is = refl
flag_is rows true has is = absurd (differ (codes "true") (codes "false") refl (some_same (codes "true") (codes "false") (sym is ∙ has)))

ok_same : {E : Type 0} (x y : ExplainRequest) → ◌≡◌ {A = Result ExplainRequest E} (Ok x) (Ok y) → x ≡ y
ok_same x y e = cc

-- ---- `run`

-- the name of a command, and the texts of its options
abbrev of_numbers : Text × List Row → Text × Option Text × Option Text × Option Text × Option Text
of_numbers p = (
  p.0,
  one_of (codes "workers") p.1,
  one_of (codes "every") p.1,
  one_of (codes "from") p.1,
  one_of (codes "progress") p.1,
)

run_has : option_map of_numbers (subcommand_of command_line (codes "run" ∷ []))
    ≡ Some (codes "run", Some (codes "1"), Some (codes "1"), Some (codes "0"), Some (codes "false"))
unfolding clap_on_literals
run_has = refl

pub run_alone : (request : Request) → IsRequestOf (subcommand_of command_line (codes "run" ∷ [])) request → request ≡ Run 1 1 0 false
run_alone request a = go request a (ap (λ t. t.0) (some_same _ _ (sym run_has ∙ ap (option_map of_numbers) a.1)))
  where
    go : (request : Request) → IsRequestOf (subcommand_of command_line (codes "run" ∷ [])) request → codes "run" ≡ command_name request → request ≡ Run 1 1 0 false
    go Check a is = absurd (differ (codes "run") (codes "check") refl is)
    go (Sweep runners workers progress) a is = absurd (differ (codes "run") (codes "sweep") refl is)
    go (Series workers every from progress) a is = absurd (differ (codes "run") (codes "series") refl is)
    go (Explain explained) a is = absurd (differ (codes "run") (codes "explain") refl is)
    go (Run workers every from progress) a is =
        let has = some_same _ _ (sym (ap (option_map of_numbers) a.1) ∙ run_has) in
        let one : workers ≡ 1 = number_is (codes "workers") (codes "1") a.0 workers (ap (λ t. t.1) has) a.2.0 in
        let each : every ≡ 1 = number_is (codes "every") (codes "1") a.0 every (ap (λ t. t.2) has) a.2.1 in
        let first : from ≡ 0 = number_is (codes "from") (codes "0") a.0 from (ap (λ t. t.3) has) a.2.2 in
        let off : progress ≡ false = flag_is a.0 progress (ap (λ t. t.4) has) a.2.3 in
        rw (one, each, first, off) refl

-- ---- `sweep`

abbrev of_sweep : Text × List Row → Text × Option Text × Option Text × Option Text
of_sweep p = (p.0, one_of (codes "runners") p.1, one_of (codes "workers") p.1, one_of (codes "progress") p.1)

sweep_has : option_map of_sweep (subcommand_of command_line (codes "sweep" ∷ [])) ≡ Some (codes "sweep", Some (codes "1"), Some (codes "1"), Some (codes "false"))
unfolding clap_on_literals
sweep_has = refl

pub sweep_alone : (request : Request) → IsRequestOf (subcommand_of command_line (codes "sweep" ∷ [])) request → request ≡ Sweep 1 1 false
sweep_alone request a = go request a (ap (λ t. t.0) (some_same _ _ (sym sweep_has ∙ ap (option_map of_sweep) a.1)))
  where
    go : (request : Request) → IsRequestOf (subcommand_of command_line (codes "sweep" ∷ [])) request → codes "sweep" ≡ command_name request → request ≡ Sweep 1 1 false
    go Check a is = absurd (differ (codes "sweep") (codes "check") refl is)
    go (Run workers every from progress) a is = absurd (differ (codes "sweep") (codes "run") refl is)
    go (Series workers every from progress) a is = absurd (differ (codes "sweep") (codes "series") refl is)
    go (Explain explained) a is = absurd (differ (codes "sweep") (codes "explain") refl is)
    go (Sweep runners workers progress) a is =
        let has = some_same _ _ (sym (ap (option_map of_sweep) a.1) ∙ sweep_has) in
        let runner : runners ≡ 1 = number_is (codes "runners") (codes "1") a.0 runners (ap (λ t. t.1) has) a.2.0 in
        let one : workers ≡ 1 = number_is (codes "workers") (codes "1") a.0 workers (ap (λ t. t.2) has) a.2.1 in
        let off : progress ≡ false = flag_is a.0 progress (ap (λ t. t.3) has) a.2.2 in
        rw (runner, one, off) refl

-- ---- `series`

series_has : option_map of_numbers (subcommand_of command_line (codes "series" ∷ []))
    ≡ Some (codes "series", Some (codes "1"), Some (codes "1"), Some (codes "0"), Some (codes "false"))
unfolding clap_on_literals
series_has = refl

pub series_alone : (request : Request) → IsRequestOf (subcommand_of command_line (codes "series" ∷ [])) request → request ≡ Series 1 1 0 false
series_alone request a = go request a (ap (λ t. t.0) (some_same _ _ (sym series_has ∙ ap (option_map of_numbers) a.1)))
  where
    go : (request : Request) → IsRequestOf (subcommand_of command_line (codes "series" ∷ [])) request → codes "series" ≡ command_name request → request ≡ Series 1 1 0 false
    go Check a is = absurd (differ (codes "series") (codes "check") refl is)
    go (Run workers every from progress) a is = absurd (differ (codes "series") (codes "run") refl is)
    go (Sweep runners workers progress) a is = absurd (differ (codes "series") (codes "sweep") refl is)
    go (Explain explained) a is = absurd (differ (codes "series") (codes "explain") refl is)
    go (Series workers every from progress) a is =
        let has = some_same _ _ (sym (ap (option_map of_numbers) a.1) ∙ series_has) in
        let one : workers ≡ 1 = number_is (codes "workers") (codes "1") a.0 workers (ap (λ t. t.1) has) a.2.0 in
        let each : every ≡ 1 = number_is (codes "every") (codes "1") a.0 every (ap (λ t. t.2) has) a.2.1 in
        let first : from ≡ 0 = number_is (codes "from") (codes "0") a.0 from (ap (λ t. t.3) has) a.2.2 in
        let off : progress ≡ false = flag_is a.0 progress (ap (λ t. t.4) has) a.2.3 in
        rw (one, each, first, off) refl

-- ---- `explain`

abbrev of_explain : Text × List Row → Text × Result ExplainRequest ErrorKind
of_explain p = (p.0, request_from_matches p.1)

explain_has : option_map of_explain (subcommand_of command_line (codes "explain" ∷ [])) ≡ Some (codes "explain", Ok (OfText None Lines))
unfolding clap_on_literals
explain_has = refl

pub explain_alone : (request : Request) → IsRequestOf (subcommand_of command_line (codes "explain" ∷ [])) request → request ≡ Explain (OfText None Lines)
explain_alone request a = go request a (ap (λ t. t.0) (some_same _ _ (sym explain_has ∙ ap (option_map of_explain) a.1)))
  where
    go : (request : Request) → IsRequestOf (subcommand_of command_line (codes "explain" ∷ [])) request → codes "explain" ≡ command_name request → request ≡ Explain (OfText None Lines)
    go Check a is = absurd (differ (codes "explain") (codes "check") refl is)
    go (Run workers every from progress) a is = absurd (differ (codes "explain") (codes "run") refl is)
    go (Sweep runners workers progress) a is = absurd (differ (codes "explain") (codes "sweep") refl is)
    go (Series workers every from progress) a is = absurd (differ (codes "explain") (codes "series") refl is)
    go (Explain explained) a is =
        let has = some_same _ _ (sym (ap (option_map of_explain) a.1) ∙ explain_has) in
        ap Explain (ok_same explained (OfText None Lines) (sym a.2 ∙ ap (λ t. t.1) has))
