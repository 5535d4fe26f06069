-- The matches of a command whose arguments take one value, or are flags or requests for help: if a parse
-- finds no fault, each value of an argument has passed the parser of this argument.
use Rattle.std.proofs.Common.{◌≡◌, ◌∙◌, ◌&&◌, ◌||◌, ◌⊎◌, ℕ, zero, suc, Bool, cond, true, false, not, refl}
use Rattle.std.proofs.Common.{sym, ap, subst, inl, inr, List, [], ◌∷◌, ◌++◌, length, drop, Option, Some, None}
use Rattle.std.proofs.Common.{append-nil, option_and_then, encode_utf8, fold, is_some, find, slice_get}
use Rattle.std.{proofs.{Common.bytes_eq, lemmas.Slice.Eq.bytes_eq-Decides}, specs.Option.option_map_or}
use Rattle.std.specs.Str.{chars}
use Rattle.clap.specs.{Lexer.{long_of, short_of}, declared.error.kind.ErrorKind.TheVariants.TooManyValues}
use Rattle.clap.specs.{Kinds.{or_else, request_kinds}, declared.parser.matches.ValueSource.ValueSource}
use Rattle.clap.specs.{Values.read_as, Walk.{with_default, with_values, word_met}, Takes.value_passes}
use Rattle.clap.specs.declared.parser.matches.ValueSource.TheVariants.{CommandLine, DefaultValue}
use Rattle.clap.specs.Walk.{Held, Outcome, Row, Rule, Step, Text, Waiting, Walk, flag_met, has_long}
use Rattle.clap.specs.Walk.{has_short, is_empty, is_pending, pushed, subcommand_or_other, takes_several}
use Rattle.clap.specs.Walk.{to_positional, walked_from, short_met, bundle, short_or_plain, action_of}
use Rattle.clap.specs.Walk.{more_values, without, after_flag, after_step, default_rows, arg_by_id}
use Rattle.clap.specs.Walk.{arg_by_index, arg_by_long, arg_by_short, attached_value, bundle_met, bundle_step}
use Rattle.clap.specs.Walk.{done, has_row, idle, long_met, long_or_other, next, nothing_held, one_of, option}
use Rattle.clap.specs.Walk.{option_met, option_word, plain, plain_word, positional, reacted, reading_by}
use Rattle.clap.specs.Walk.{refused, row_text, rows_after, settled, settled_rows, subcommand, subcommand_met}
use Rattle.clap.specs.Walk.{takes_values, trailing, used, used_by_id, value, waits, walk, walk_from, walked}
use Rattle.clap.specs.{Simple.Shape, Faults.{flags_fault, level_fault, long_fault, option_fault, other_fault}}
use Rattle.clap.specs.Faults.{bundle_fault, bundle_step_fault, default_fault, defaults_fault, flag_word_fault}
use Rattle.clap.specs.Faults.{positional_fault, react_fault, settle_fault, short_fault, step_fault}
use Rattle.clap.specs.Faults.{stray_fault, turn_fault, use_fault, values_fault, walk_fault, word_fault}
use Rattle.trlab_command_line.proofs.Rows.{Each, found_holds, none_fails, not_empty, some_same, at_end}
use Rattle.trlab_command_line.proofs.Rows.{has_more, has_last, same_id}
use Rattle.trlab_command_line.proofs.Uses.{TakesOne, IsFlag, IsHelp, help_fault, UsesOne, values_pass}
use Rattle.trlab_command_line.proofs.Uses.{one_use, flag_use, used_so, one_used, flag_used}

-- an argument of one of these kinds, whose id no other argument of the command has
abbrev pub Known : List Rule → Rule → Type 0
Known c a = (TakesOne a ⊎ (IsFlag a ⊎ IsHelp a)) × (arg_by_id c a.id ≡ Some a)

-- every one of some arguments is such an argument
abbrev pub AllKnown : List Rule → List Rule → Type 0
AllKnown c xs = Each (Known c) xs

-- `all` states this of the arguments of the command
module _ (c : List Rule) (all : AllKnown c c) where
  known : (test : Rule → Bool) (a : Rule) → find test c ≡ Some a → Known c a
  known test a e = found_holds (Known c) test c all a e

  -- the row has a value that has passed its argument's parser, and is read as the parser's result
  abbrev Passed : Row → Type 0
  Passed r = (a : Rule) × (v : Text) × (arg_by_id c r.id ≡ Some a) × (slice_get r.values 0 ≡ Some v) × (value_passes a v ≡ true) × (r.reading ≡ reading_by a)

  abbrev AllPassed : List Row → Type 0
  AllPassed [] = Unit {0}
  AllPassed (r ∷ rs) = Passed r × AllPassed rs

  one_more : (rows : List Row) (r : Row) → AllPassed rows → Passed r → AllPassed (rows ++ r ∷ [])
  one_more [] r h passed = (passed, tt)
  one_more (x ∷ xs) r h passed = (h.0, one_more xs r h.1 passed)

  -- if the first value has passed, the row has a value that has passed
  new_row : (a : Rule) (source : ValueSource) (v : Text) (vs : List Text) (rows : List Row) → Known c a → value_passes a v ≡ true
      → has_row a.id rows ≡ false → AllPassed rows → AllPassed (with_values a.id (reading_by a) source (v ∷ vs) rows)
  new_row a source v vs rows is passes none h =
      let row : Row = record { id = a.id; values = v ∷ vs; count = None; source = Some source; reading = reading_by a } in
      subst AllPassed (sym (at_end a.id (more_values source (v ∷ vs)) (row ∷ []) rows none))
      (one_more rows row h (a, v, is.1, refl, passes, refl))

  -- one use of an argument
  use_passes : (a : Rule) (values : List Text) (rows : List Row) → Known c a → use_fault false a values rows ≡ [] → AllPassed rows → AllPassed (used a values rows)
  use_passes a values rows is e h = elim is.0 [
    | inl one ↦ finish (one_use a values rows one e) (one_used a values rows one)
    | inr more ↦ elim more [
      | inl flag ↦ finish (flag_use a values rows flag e) (flag_used a values rows flag)
      | inr help ↦ absurd (help_fault a values rows help e)
    ]
  ]
    where
      finish : UsesOne a values rows → used a values rows ≡ used_so a values rows → AllPassed (used a values rows)
      finish given same =
          let none : without a.id rows ≡ rows = at_end a.id (λ _. []) [] rows given.2 ∙ append-nil rows in
          let row = new_row a CommandLine given.0 [] rows is given.3 given.2 h in
          let so : used_so a values rows ≡ with_values a.id (reading_by a) CommandLine (given.0 ∷ []) rows =
          ap (λ vs. with_values a.id (reading_by a) CommandLine vs (without a.id rows)) given.1
          ∙ ap (with_values a.id (reading_by a) CommandLine (given.0 ∷ [])) none in
          subst AllPassed (sym (same ∙ so)) row

  -- an argument that waits for its values is used
  held_passes : (pending : Option (Text × List Text)) (rows : List Row)
      → option_map_or (λ p. option_map_or (λ a. use_fault false a p.1 rows) (arg_by_id c p.0) []) pending [] ≡ [] → AllPassed rows → AllPassed (settled_rows c pending rows)
  held_passes None rows e h = h
  held_passes (Some p) rows e h = go (arg_by_id c p.0) refl e
    where
      go : (o : Option Rule) → arg_by_id c p.0 ≡ o → option_map_or (λ a. use_fault false a p.1 rows) o [] ≡ [] → AllPassed (used_by_id o p.1 rows)
      go None found none = h
      go (Some a) found none = use_passes a p.1 rows (known (λ x. bytes_eq x.id p.0) a found) none h

  abbrev Holds : Held → Type 0
  Holds h = AllPassed h.rows

  settle_passes : (h : Held) → settle_fault c false h ≡ [] → Holds h → Holds (settled c h)
  settle_passes h e passed = held_passes h.pending h.rows e passed

  react_passes : (a : Rule) (values : List Text) (h : Held) → Known c a → react_fault c false a values h ≡ [] → Holds h → Holds (reacted c a values h)
  react_passes a values h is e passed =
      let steps = none_fails (settle_fault c false h) (use_fault false a values (settled c h).rows) e in
      use_passes a values (settled c h).rows is steps.1 (settle_passes h steps.0 passed)

  option_passes : (a : Rule) (v : Option Text) (h : Held) → Known c a → option_fault c false a v h ≡ [] → Holds h → Holds (option_met c a v h).0
  option_passes a None h is e passed = settle_passes h e passed
  option_passes a (Some v) h is e passed = react_passes a (v ∷ []) h is e passed

  -- `--name` or `--name=value`
  long_passes : (o : Option Rule) (v : Option Text) (h : Held) → ((a : Rule) → o ≡ Some a → Known c a) → long_fault c false o v h ≡ [] → Holds h → Holds (long_met c o v h).0
  long_passes None v h is e passed = cc
  long_passes (Some a) v h is e passed = go (takes_values a) v e
    where
      go : (takes : Bool) (v : Option Text) → cond takes (option_fault c false a v h) (cond (is_some v) (TooManyValues ∷ []) (react_fault c false a [] h)) ≡ []
          → Holds (cond takes (option_met c a v h) (flag_met c a v h)).0
      go true v f = option_passes a v h (is a refl) f passed
      go false None f = react_passes a [] h (is a refl) f passed
      go false (Some v) f = cc

  -- the flags of `-abc`
  abbrev FlagsPass : ℕ → Type 0
  FlagsPass k = (flags : Text) (skip : ℕ) (so_far : Outcome) (h : Held) → flags_fault c false k flags skip h ≡ [] → Holds h → Holds (bundle_met c k flags skip so_far h).0

  flags_pass : (k : ℕ) (flags : Text) (skip : ℕ) (so_far : Outcome) (h : Held) → flags_fault c false k flags skip h ≡ [] → Holds h → Holds (bundle_met c k flags skip so_far h).0
  unfolding flags_fault bundle_met
  flags_pass zero flags skip so_far h e passed = passed
  flags_pass (suc k) flags skip so_far h e passed = step (slice_get (chars flags) 0) skip e (flags_pass k)
    where
      flag : (rest : Text) (o : Option Rule) → ((a : Rule) → o ≡ Some a → Known c a) → short_fault c false o rest h (flags_fault c false k rest 0) ≡ [] → FlagsPass k
          → Holds (short_met c o rest h (bundle_met c k rest 0 done)).0
      flag rest None is f later = cc
      flag rest (Some a) is f later = taken (takes_values a) f later
        where
          taken : (takes : Bool)
              → cond takes (option_fault c false a (attached_value rest) h) (or_else (react_fault c false a [] h) (flags_fault c false k rest 0 (reacted c a [] h))) ≡ [] → FlagsPass k
              → Holds (cond takes (option_met c a (attached_value rest) h) (bundle_met c k rest 0 done (reacted c a [] h))).0
          taken true f later = option_passes a (attached_value rest) h (is a refl) f passed
          taken false f later =
              let steps = none_fails (react_fault c false a [] h) (flags_fault c false k rest 0 (reacted c a [] h)) f in
              later rest 0 done (reacted c a [] h) steps.1 (react_passes a [] h (is a refl) steps.0 passed)

      step : (o : Option ℕ) (skip : ℕ) → bundle_step_fault c false o flags skip h (flags_fault c false k) ≡ [] → FlagsPass k
          → Holds (bundle_step c o flags skip so_far h (bundle_met c k)).0
      step None skip f later = passed
      step (Some x) zero f later =
          flag (drop (length (encode_utf8 x)) flags) (arg_by_short c x) (known (λ a. not (is_some a.index) && has_short a x)) f later
      step (Some x) (suc skip) f later = later (drop (length (encode_utf8 x)) flags) skip so_far h f passed

  -- a word that is not a flag changes no row
  plain_held : (waiting : Waiting) (word : Text) (h : Held) → Holds h → Holds (plain_word c waiting word h).0
  plain_held idle word h passed = passed
  plain_held positional word h passed = passed
  plain_held (option id) word h passed = go (arg_by_id c id)
    where
      go : (o : Option Rule) → Holds (option_word o id word h).0
      go None = passed
      go (Some a) = passed

  after_flag_held : (waiting : Waiting) (word : Text) (h : Held) (o : Outcome) → Holds h → Holds (after_flag c waiting word h o).0
  after_flag_held waiting word h done passed = passed
  after_flag_held waiting word h (waits id) passed = passed
  after_flag_held waiting word h plain passed = plain_held waiting word h passed
  after_flag_held waiting word h refused passed = plain_held waiting word h passed

  -- a command without subcommands finds none in a word
  none_met : (waiting : Waiting) (word : Text) → subcommand_met [] waiting word ≡ None
  none_met idle word = refl
  none_met positional word = refl
  none_met (option id) word = refl

  short_word_passes : (waiting : Waiting) (word : Text) (o : Option Text) (h : Held) → option_map_or (λ flags. bundle_fault c false flags h) o [] ≡ [] → Holds h
      → Holds (short_or_plain c waiting word o h).0
  short_word_passes waiting word None h e passed = plain_held waiting word h passed
  short_word_passes waiting word (Some flags) h e passed =
      after_flag_held waiting word (bundle c flags h).0 (bundle c flags h).1 (flags_pass (length flags) flags h.skip plain (record h { skip = 0 }) e passed)

  flag_word_passes : (waiting : Waiting) (word : Text) (o : Option (Text × Option Text)) (h : Held) → flag_word_fault c false o word h ≡ [] → Holds h
      → Holds (long_or_other c waiting word o h).0
  flag_word_passes waiting word None h e passed = short_word_passes waiting word (short_of word) h e passed
  flag_word_passes waiting word (Some p) h e passed =
      let met = long_met c (arg_by_long c p.0) p.1 h in
      after_flag_held waiting word met.0 met.1
      (long_passes (arg_by_long c p.0) p.1 h (known (λ a. not (is_some a.index) && has_long a p.0)) e passed)

  -- ---- defaults

  default_passes : (a : Rule) (rows : List Row) → Known c a → default_fault rows a ≡ [] → AllPassed rows → AllPassed (with_default rows a)
  default_passes a rows is e h = go (has_row a.id rows) refl a.defaults e
    where
      go : (has : Bool) → has_row a.id rows ≡ has → (ds : List Text) → cond (has || is_empty ds) [] (or_else (request_kinds (action_of a)) (values_fault a ds)) ≡ []
          → AllPassed (cond has rows (default_rows a.id (reading_by a) ds rows))
      go true there ds f = h
      go false there [] f = h
      go false there (v ∷ vs) f =
          let given : or_else (request_kinds (action_of a)) (values_fault a (v ∷ vs)) ≡ [] =
          subst (λ (b : Bool). cond (false || b) [] (or_else (request_kinds (action_of a)) (values_fault a (v ∷ vs))) ≡ []) (not_empty v vs) f in
          let passes = values_pass a v vs (none_fails (request_kinds (action_of a)) (values_fault a (v ∷ vs)) given).1 in
          new_row a DefaultValue v vs rows is passes there h

  defaults_pass : (xs : List Rule) (rows : List Row) → AllKnown c xs → defaults_fault rows xs ≡ [] → AllPassed rows → AllPassed (fold with_default rows xs)
  unfolding defaults_fault
  defaults_pass [] rows is e h = h
  defaults_pass (a ∷ rest) rows is e h =
      let steps = none_fails (default_fault rows a) (defaults_fault (with_default rows a) rest) e in
      defaults_pass rest (with_default rows a) is.1 steps.1 (default_passes a rows is.0 steps.0 h)

  -- a row that exists remains
  row_stays : (id : Text) (a : Rule) (rows : List Row) → has_row id rows ≡ true → has_row id (with_default rows a) ≡ true
  row_stays id a rows is = go (has_row a.id rows) refl a.defaults
    where
      go : (has : Bool) → has_row a.id rows ≡ has → (defaults : List Text) → has_row id (cond has rows (default_rows a.id (reading_by a) defaults rows)) ≡ true
      go true h defaults = is
      go false h [] = is
      go false h (v ∷ vs) = rw (at_end a.id (more_values DefaultValue (v ∷ vs)) _ rows h) (has_more id rows _ is)

  rows_stay : (id : Text) (xs : List Rule) (rows : List Row) → has_row id rows ≡ true → has_row id (fold with_default rows xs) ≡ true
  rows_stay id [] rows is = is
  rows_stay id (a ∷ rest) rows is = rows_stay id rest (with_default rows a) (row_stays id a rows is)

  -- an option with a default has a row
  default_row : (a : Rule) (v : Text) (rows : List Row) → a.defaults ≡ v ∷ [] → has_row a.id (with_default rows a) ≡ true
  default_row a v rows is = go (has_row a.id rows) refl
    where
      go : (has : Bool) → has_row a.id rows ≡ has → has_row a.id (cond has rows (default_rows a.id (reading_by a) a.defaults rows)) ≡ true
      go true h = h
      go false h = rw (is, at_end a.id (more_values DefaultValue (v ∷ [])) _ rows h) (has_last a.id rows _ (same_id a.id))

  -- the value that is read of an argument, if all rows have passed: the one that passed, if it has a row
  abbrev Read : Rule → Option Text → Type 0
  Read own text = (v : Text) × (text ≡ Some (read_as (reading_by own) v)) × (value_passes own v ≡ true)

  reads : (own : Rule) (rows : List Row) → arg_by_id c own.id ≡ Some own → has_row own.id rows ≡ true → AllPassed rows → Read own (one_of own.id rows)
  reads own [] at is h = cc
  reads own (r ∷ rs) at is h = go (bytes_eq r.id own.id) refl is (reads own rs at)
    where
      read : bytes_eq r.id own.id ≡ true → (p : Passed r) → Read own (row_text r)
      read same p =
          let mine : p.0 ≡ own = some_same p.0 own (sym p.2 ∙ ap (arg_by_id c) ((bytes_eq-Decides r.id own.id).0 same) ∙ at) in
          subst (λ (a : Rule). Read a (row_text r)) mine (p.1, rw (p.3, p.5) refl, p.4)

      go : (b : Bool) → bytes_eq r.id own.id ≡ b → (b || has_row own.id rs) ≡ true → (has_row own.id rs ≡ true → AllPassed rs → Read own (one_of own.id rs))
          → Read own (option_and_then row_text (cond b (Some r) (find (λ x. bytes_eq x.id own.id) rs)))
      go true same there later = read same h.0
      go false same there later = later there h.1

  -- an argument without a row has no value
  reads_none : (id : Text) (rows : List Row) → has_row id rows ≡ false → one_of id rows ≡ None
  reads_none id [] e = refl
  reads_none id (r ∷ rs) e = go (bytes_eq r.id id) e (reads_none id rs)
    where
      go : (b : Bool) → (b || has_row id rs) ≡ false → (has_row id rs ≡ false → one_of id rs ≡ None)
          → option_and_then row_text (cond b (Some r) (find (λ x. bytes_eq x.id id) rs)) ≡ None
      go true f later = cc
      go false f later = later f

  -- a command with these arguments, each of which is used once
  module _ (s : Shape) where
    abbrev level : Shape
    level = record s { rules = c; args_override_self = false }

    other_word_passes : (waiting : Waiting) (position : ℕ) (word : Text) (h : Held) → other_fault level None word h ≡ [] → Holds h
        → Holds (subcommand_or_other c None waiting position word h).0
    other_word_passes waiting position word h e passed = go (bytes_eq word (45 ∷ 45 ∷ [])) e
      where
        go : (dashes : Bool) → cond dashes [] (flag_word_fault c false (long_of word) word h) ≡ []
            → Holds (cond dashes (h, trailing position) (long_or_other c waiting word (long_of word) h)).0
        go true f = passed
        go false f = flag_word_passes waiting word (long_of word) h f passed

    word_passes : (is_trailing : Bool) (waiting : Waiting) (position : ℕ) (word : Text) (h : Held) → word_fault level [] is_trailing waiting word h ≡ [] → Holds h
        → Holds (word_met c [] is_trailing waiting position word h).0
    word_passes true waiting position word h e passed = passed
    word_passes false waiting position word h e passed =
        let none = none_met waiting word in
        subst (λ o. Holds (subcommand_or_other c o waiting position word h).0) (sym none)
        (other_word_passes waiting position word h (subst (λ o. other_fault level o word h ≡ []) none e) passed)

    -- a word for a positional argument ends the argument that waited
    placed_passes : (a : Rule) (word : Text) (h : Held) → positional_fault c false a h ≡ [] → Holds h
        → Holds (pushed a.id word (cond (is_pending a h.pending && takes_several a) h (settled c h)))
    placed_passes a word h e passed = go (is_pending a h.pending && takes_several a) e
      where
        go : (b : Bool) → cond b [] (settle_fault c false h) ≡ [] → Holds (pushed a.id word (cond b h (settled c h)))
        go true f = passed
        go false f = settle_passes h f passed

    -- the rows and the waiting argument after a word
    step_held : (word : Text) (w : Walk) (h : Held) (step : Step) → step_fault level w.position h step ≡ [] → Holds h → Holds (after_step c word w h step).held
    step_held word w h (next waiting) e passed = passed
    step_held word w h (trailing position) e passed = passed
    step_held word w h (subcommand name) e passed = passed
    step_held word w h value e passed = go (arg_by_index c w.position) e
      where
        go : (o : Option Rule) → option_map_or (λ a. positional_fault c false a h) o (stray_fault level) ≡ [] → Holds (to_positional c o word w h).held
        go None f = passed
        go (Some a) f = placed_passes a word h f passed

    turn_passes : (w : Walk) (word : Text) → turn_fault level [] w word ≡ [] → Holds w.held → Holds (walked c [] w word).held
    unfolding walked
    turn_passes w word e passed = go w.stopped e
      where
        go : (stopped : Option (Text × List Text))
            → cond (is_some stopped) [] (or_else (word_fault level [] w.is_trailing w.waiting word w.held)
            (step_fault level w.position (word_met c [] w.is_trailing w.waiting w.position word w.held).0 (word_met c [] w.is_trailing w.waiting w.position word w.held).1)) ≡ []
            → Holds (walked_from c [] stopped w word).held
        go (Some p) f = passed
        go None f =
            let met = word_met c [] w.is_trailing w.waiting w.position word w.held in
            let steps = none_fails (word_fault level [] w.is_trailing w.waiting word w.held) (step_fault level w.position met.0 met.1) f in
            step_held word w met.0 met.1 steps.1 (word_passes w.is_trailing w.waiting w.position word w.held steps.0 passed)

    walk_passes : (words : List Text) (w : Walk) → walk_fault level [] w words ≡ [] → Holds w.held → Holds (fold (walked c []) w words).held
    unfolding walk_fault
    walk_passes [] w e passed = passed
    walk_passes (word ∷ rest) w e passed =
        let steps = none_fails (turn_fault level [] w word) (walk_fault level [] (walked c [] w word) rest) e in
        walk_passes rest (walked c [] w word) steps.1 (turn_passes w word steps.0 passed)

    -- the rows of all the words
    words_pass : (words : List Text) → level_fault level [] nothing_held words false [] ≡ [] → AllPassed (rows_after c [] words)
    words_pass words e =
        let end = (walk c [] nothing_held words).held in
        let steps = none_fails (walk_fault level [] (walk_from nothing_held) words) _ e in
        let later = none_fails (settle_fault c false end) _ steps.1 in
        let last = none_fails (defaults_fault (settled c end).rows c) _ later.1 in
        defaults_pass c (settled c end).rows all last.0 (settle_passes end later.0 (walk_passes words (walk_from nothing_held) steps.0 tt))

    -- an argument with a default has a value that passed its parser, if the words have no fault
    pub own_value : (own : Rule) (v : Text) (words : List Text) → arg_by_id c own.id ≡ Some own → own.defaults ≡ v ∷ []
        → level_fault level [] nothing_held words false [] ≡ [] → Read own (one_of own.id (rows_after c [] words))
    own_value own v words at default e =
        let rows = (settled c (walk c [] nothing_held words).held).rows in
        reads own (rows_after c [] words) at (there c rows at) (words_pass words e)
      where
        there : (xs : List Rule) (rows : List Row) → find (λ a. bytes_eq a.id own.id) xs ≡ Some own → has_row own.id (fold with_default rows xs) ≡ true
        there [] rows f = cc
        there (x ∷ xs) rows f = go (bytes_eq x.id own.id) f (there xs (with_default rows x))
          where
            go : (b : Bool) → cond b (Some x) (find (λ a. bytes_eq a.id own.id) xs) ≡ Some own
                → (find (λ a. bytes_eq a.id own.id) xs ≡ Some own → has_row own.id (fold with_default (with_default rows x) xs) ≡ true)
                → has_row own.id (fold with_default (with_default rows x) xs) ≡ true
            go true g later =
                let same : own ≡ x = sym (some_same x own g) in
                rows_stay own.id xs (with_default rows x) (subst (λ (a : Rule). has_row own.id (with_default rows a) ≡ true) same (default_row own v rows default))
            go false g later = later g

    -- it has no value, or one that passed its parser
    pub own_if_given : (own : Rule) (words : List Text) → arg_by_id c own.id ≡ Some own → level_fault level [] nothing_held words false [] ≡ []
        → (one_of own.id (rows_after c [] words) ≡ None) ⊎ Read own (one_of own.id (rows_after c [] words))
    own_if_given own words at e = go (has_row own.id (rows_after c [] words)) refl
      where
        go : (b : Bool) → has_row own.id (rows_after c [] words) ≡ b
            → (one_of own.id (rows_after c [] words) ≡ None) ⊎ Read own (one_of own.id (rows_after c [] words))
        go true there = inr (reads own (rows_after c [] words) at there (words_pass words e))
        go false there = inl (reads_none own.id (rows_after c [] words) there)
