-- The results of parsing the command line, as its caller reads them.
use Rattle.std.proofs.Common.{◌≡◌, ◌∙◌, ◌≤◌, ◌<◌, ◌^◌, ◌||◌, ℕ, Bool, true, false, inl, inr, refl, sym, ap}
use Rattle.std.proofs.Common.{ap₂, subst, arith, List, [], ◌∷◌, Option, Some, None, Result, Ok, codes}
use Rattle.std.proofs.Common.{option_map, unwrap_or, Box, bytes_eq, box_value, Bor}
use Rattle.std.{proofs.lemmas.Slice.Eq.bytes_eq-Decides, specs.Str.Parse.ParsesUnsigned}
use Rattle.clap.specs.{Lexer.without_minus, Kinds.{HasKind, IsAmong, Kinds, or_else}}
use Rattle.clap.specs.{Matches.{ReadsOne, found_of, subcommand_name_of}, Walk.{Row, Text, one_of, rows_of}}
use Rattle.clap.specs.Simple.{App, HasMatchesOf, subcommand_of, subcommand_rows, subcommand_rows_of}
use Rattle.clap.specs.{Faults.{fault_of, is_simple_and_free}, Words.first_of, declared.error.Error.Error}
use Rattle.clap.specs.declared.{error.kind.ErrorKind.ErrorKind, parser.matches.ArgMatches.ArgMatches}
use Rattle.clap.specs.declared.parser.matches.ArgMatches.TheViews.{out-ArgMatches, out-SubCommand}
use Rattle.clap.{specs.declared.parser.matches.SubCommand.SubCommand, proofs.CallerReads.signed_reads}
use Rattle.trlab_command_line.specs.CommandLine.{GivesFlag, GivesNumber, HasFlagValue, HasValueFrom}
use Rattle.trlab_command_line.specs.CommandLine.{MayHaveNumber, flag_text, argument_number, numeral_value}
use Rattle.trlab_command_line.specs.CommandLine.{is_true_value, command_line, explain_request}
use Rattle.trlab_command_line.specs.CommandLine.{request_from_matches, IsEntered}
use Rattle.trlab_command_line.specs.declared.arguments.explain.ExplainRequest.{ExplainRequest}
use Rattle.trlab_command_line.proofs.{CommandLine.taken, Rows.some_same}

-- the command that was entered, of a command that is the whole command line
entered_of : (app : App) (words : List Text) (m : ArgMatches) → app ≡ command_line → HasMatchesOf app words m → subcommand_rows_of m ≡ subcommand_of command_line words
entered_of app words m is has =
    let here : HasMatchesOf command_line words m = subst (λ a. HasMatchesOf a words m) is has in
    (here refl).1

fault_none : (app : App) (words : List Text) → app ≡ command_line → (is_simple_and_free app ≡ true → fault_of app words ≡ []) → fault_of command_line words ≡ []
fault_none app words is h =
    let here : is_simple_and_free command_line ≡ true → fault_of command_line words ≡ [] =
    subst (λ a. is_simple_and_free a ≡ true → fault_of a words ≡ []) is h in
    here refl

module _ {Z : Type 0} where
  -- the name is that of the rows
  name_of_rows : (o : Option (Box SubCommand Z)) → option_map (λ b. (out-SubCommand (box_value b)).name.now) o ≡ option_map (λ p. p.0) (subcommand_rows o)
  name_of_rows None = refl
  name_of_rows (Some b) = refl

-- ---- kinds of errors

among_front : (kind : _) (front behind : Kinds) → IsAmong kind front → IsAmong kind (or_else front behind)
among_front kind [] behind among = absurd among
among_front kind (k ∷ ks) behind among = among

-- an error of the first step is an error of both
pub has_front : (front behind : Kinds) (error : Error) → HasKind front error → HasKind (or_else front behind) error
has_front front behind error (inl memory) = inl memory
has_front front behind error (inr among) = inr (among_front _ front behind among)

-- an error in words that are rejected
pub fault_some : (app : App) (words : List Text) (behind : Kinds) (error : Error) → app ≡ command_line → (is_simple_and_free app ≡ true → HasKind (fault_of app words) error)
    → HasKind (or_else (fault_of command_line words) behind) error
fault_some app words behind error is h =
    let here : is_simple_and_free command_line ≡ true → HasKind (fault_of command_line words) error =
    subst (λ a. is_simple_and_free a ≡ true → HasKind (fault_of a words) error) is h in
    has_front (fault_of command_line words) behind error (here refl)

-- ---- the command that was entered

-- the result of parsing the command line: a command of this name, with these matches
pub record Met (words : List Text) (name : Text) (rows : List Row) : Type 0 where
  pub fault : fault_of command_line words ≡ []
  pub at : subcommand_of command_line words ≡ Some (name, rows)
  pub first : (rest : List Text) × (words ≡ name ∷ rest)
  pub is_entered : IsEntered name rows

module _ (app : App) (words : List Text) (m : ArgMatches) (r : Option (Bor Text × Bor ArgMatches)) (is : app ≡ command_line) (has : HasMatchesOf app words m)
    (kinds : is_simple_and_free app ≡ true → fault_of app words ≡ []) (name : option_map (λ p. p.0.now) r ≡ subcommand_name_of m)
    (rows : option_map (λ p. rows_of (found_of p.1.now)) r ≡ option_map (λ p. p.1) (subcommand_rows_of m)) where
  pub met : (p : Bor Text × Bor ArgMatches) → r ≡ Some p → Met words p.0.now (rows_of (found_of p.1.now))
  met p some =
      let here = entered_of app words m is has in
      let none = fault_none app words is kinds in
      let t = taken words none in
      let named : p.0.now ≡ t.name = some_same _ _ (ap (option_map (λ p. p.0.now)) (sym some) ∙ name ∙ name_of_rows (out-ArgMatches m).subcommand ∙ ap (option_map (λ p. p.0)) (here ∙ t.enters)) in
      let same : rows_of (found_of p.1.now) ≡ t.rows = some_same _ _ (ap (option_map (λ p. rows_of (found_of p.1.now))) (sym some) ∙ rows ∙ ap (option_map (λ p. p.1)) (here ∙ t.enters)) in
      record {
        fault = none;
        at = t.enters ∙ ap₂ (λ n rs. Some (n, rs)) (sym named) (sym same);
        first = (t.rest, t.first ∙ ap (λ n. n ∷ t.rest) (sym named));
        is_entered = subst (λ n. IsEntered n (rows_of (found_of p.1.now))) (sym named) (subst (IsEntered t.name) (sym same) t.is_entered);
      }

  -- some command was entered
  pub met_some : r ≡ None → ⊥
  met_some none =
      let t = taken words (fault_none app words is kinds) in
      let bad : None ≡ Some t.name = ap (option_map (λ p. p.0.now)) (sym none) ∙ name ∙ name_of_rows (out-ArgMatches m).subcommand ∙ ap (option_map (λ p. p.0)) (entered_of app words m is has ∙ t.enters) in
      absurd cc

-- ---- the getters of the matches

-- the number of an option
module _ (E : Type 0) (G : List ℕ → Result ℕ E → Type 0) (only : (u : List ℕ) (x : Result ℕ E) → G u x → ParsesUnsigned 32 10 u x)
    (option : Text) (rows : List Row) (least most : ℕ) (fits : most < 2 ^ 32) (given : (v : Text) × HasValueFrom option least most rows v)
    (r : Option ℕ) (read : (t : List ℕ) → one_of option rows ≡ Some t → ReadsOne G t r) where
  bounds : (n : ℕ) × (r ≡ Some n) × (least ≤ n) × (n ≤ most)
  bounds = signed_reads E G 32 least most given.0 r (read (without_minus given.0) given.1.0) only fits given.1.1

  pub some_number : r ≡ None → ⊥
  some_number is =
      let bad = sym is ∙ bounds.1 in
      absurd cc

  pub the_number : (n : ℕ) → r ≡ Some n → GivesNumber option rows n × ((least ≤ n) × (n ≤ most))
  the_number n is =
      let same : bounds.0 ≡ n = ap (λ o. unwrap_or o n) (sym bounds.1 ∙ is) in
      let parsed : ParsesUnsigned {E = E} 32 10 (without_minus given.0) (Ok n) = only (without_minus given.0) (Ok n) (subst (ReadsOne G (without_minus given.0)) is (read (without_minus given.0) given.1.0)) in
      ((without_minus given.0, given.1.0, sym parsed.1), (subst (λ k. least ≤ k) same bounds.2, subst (λ k. k ≤ most) same bounds.3))

-- the number of an optional argument
module _ (E : Type 0) (G : List ℕ → Result ℕ E → Type 0) (only : (u : List ℕ) (x : Result ℕ E) → G u x → ParsesUnsigned 32 10 u x)
    (argument : Text) (rows : List Row) (r : Option ℕ) (unread : one_of argument rows ≡ None → r ≡ None)
    (read : (t : List ℕ) → one_of argument rows ≡ Some t → ReadsOne G t r) where
  pub the_number_in : MayHaveNumber argument rows → r ≡ argument_number argument rows
  the_number_in (inl none) = unread none ∙ sym (ap (option_map numeral_value) none)
  the_number_in (inr given) =
      let here = bounds E G only argument rows 0 4294967295 (omega arith) given r read in
      let gives : GivesNumber argument rows here.0 = (the_number E G only argument rows 0 4294967295 (omega arith) given r read here.0 here.1).0 in
      here.1 ∙ sym (ap (option_map numeral_value) gives.1 ∙ ap Some gives.2)

-- whether a flag was given
pub the_flag : (flag : Text) (rows : List Row) (r : Bool) → HasFlagValue flag rows → (one_of flag rows ≡ Some (codes "true") → r ≡ true) → (one_of flag rows ≡ Some (codes "false") → r ≡ false)
    → one_of flag rows ≡ flag_text r
the_flag flag rows r has set unset = by_true (bytes_eq has.0 (codes "true")) refl has.2
  where
    same : (text : Text) → bytes_eq has.0 text ≡ true → one_of flag rows ≡ Some text
    same text is = has.1 ∙ ap Some ((bytes_eq-Decides has.0 text).0 is)

    by_true : (b : Bool) → bytes_eq has.0 (codes "true") ≡ b → (b || bytes_eq has.0 (codes "false")) ≡ true → one_of flag rows ≡ flag_text r
    by_true true is h =
        let given = same (codes "true") is in
        given ∙ ap flag_text (sym (set given))
    by_true false is h =
        let given = same (codes "false") h in
        given ∙ ap flag_text (sym (unset given))

-- ---- the arguments of `explain`

flag_says : (given : Bool) → is_true_value (flag_text given) ≡ given
flag_says true = refl
flag_says false = refl

-- the request of `explain`, by the values of its arguments
pub explained_same : (rows : List Row) (asked : Result ExplainRequest ErrorKind) (what : Option Text) (number : Option ℕ) (json : Bool)
    → asked ≡ explain_request what number json → what ≡ first_of (codes "what") rows → number ≡ argument_number (codes "number") rows → GivesFlag (codes "json") rows json
    → asked ≡ request_from_matches rows
explained_same rows asked what number json is first second flag =
    is ∙ ap₂ (λ w n. explain_request w n json) first second
    ∙ ap (explain_request (first_of (codes "what") rows) (argument_number (codes "number") rows)) (sym (ap is_true_value flag ∙ flag_says json))
