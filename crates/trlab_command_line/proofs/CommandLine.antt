-- The words that the command line takes without a fault: first the name of a command, and then words that
-- this command takes.
use Rattle.std.proofs.Common.{◌≡◌, ◌∙◌, ◌&&◌, ◌||◌, ◌⊎◌, ℕ, zero, suc, Bool, cond, true, false, not, refl}
use Rattle.std.proofs.Common.{sym, ap, subst, inl, inr, List, [], ◌∷◌, length, drop, Option, Some, None}
use Rattle.std.proofs.Common.{codes, encode_utf8, fold, find, option_map, slice_get, bytes_eq}
use Rattle.std.{proofs.lemmas.Slice.Eq.bytes_eq-Decides, specs.{List.list_any, Option.option_map_or}}
use Rattle.std.specs.Str.{chars}
use Rattle.clap.specs.{Lexer.{long_of, short_of}, Kinds.{Kinds, or_else}, Walk.{Held, Names, Row, Rule, Text}}
use Rattle.clap.specs.Walk.{Walk, after_flag, after_step, answers_to, Outcome, long_or_other, short_or_plain}
use Rattle.clap.specs.Walk.{value, bundle, bundle_met, bundle_step, has_long, has_short, idle, nothing_held}
use Rattle.clap.specs.Walk.{plain, rows_after, subcommand_met, subcommand_or_other, walk, walk_from, walked}
use Rattle.clap.specs.Simple.{App, Shape, built, entered, filled, help_rule, label_of, names_of, rows_at}
use Rattle.clap.specs.{Simple.{subcommand_of, version_rule}, Faults.{built_fault, bundle_fault}}
use Rattle.clap.specs.Faults.{bundle_step_fault, entered_fault, fault_of, flag_word_fault, flags_fault}
use Rattle.clap.specs.Faults.{level_fault, long_fault, other_fault, short_fault, step_fault, turn_fault}
use Rattle.clap.specs.{Faults.walk_fault, declared.error.kind.ErrorKind.ErrorKind}
use Rattle.clap.specs.declared.error.kind.ErrorKind.TheVariants.{DisplayHelpOnMissingArgumentOrSubcommand}
use Rattle.clap.proofs.{OnLiterals.clap_on_literals, WalkLemmas.{find-map, walk_stopped}}
use Rattle.trlab_command_line.specs.CommandLine.{command_line, IsEntered}
use Rattle.trlab_command_line.proofs.Rows.{Each, found_holds, none_fails, some_same}

-- the command line once it is built, and its commands
abbrev pub line : App
line = built command_line

abbrev top : Shape
top = line.top

abbrev names : Names
names = names_of line

-- the flag for help, which each command has
abbrev help_flag : Rule
help_flag = filled help_rule

-- the flag for the version, which only the program itself has
abbrev version_flag : Rule
version_flag = filled version_rule

-- ---- before a command is named

-- `--name` is unknown, or is the flag for help or for the version
abbrev asked : Bool → Bool → Option Rule
asked for_help for_version = cond for_help (Some help_flag) (cond for_version (Some version_flag) None)

some_fault : (kind : ErrorKind) (kinds : Kinds) → kind ∷ kinds ≡ [] → ⊥
some_fault kind kinds e = cc

long_fails : (c : List Rule) (b v : Bool) (value : Option Text) → long_fault c false (asked b v) value nothing_held ≡ [] → ⊥
long_fails c false false o e = some_fault _ _ e
long_fails c false true None e = some_fault _ _ e
long_fails c false true (Some o) e = some_fault _ _ e
long_fails c true v None e = some_fault _ _ e
long_fails c true v (Some o) e = some_fault _ _ e

-- so are the flags of `-abc`, unless there are none
flags_fail : (k : ℕ) (flags : Text) → flags_fault top.rules false k flags 0 nothing_held ≡ [] → bundle_met top.rules k flags 0 plain nothing_held ≡ (nothing_held, plain)
unfolding flags_fault bundle_met
flags_fail zero flags e = refl
flags_fail (suc k) flags e = go (slice_get (chars flags) 0) e
  where
    flag : (c : List Rule) (b v : Bool) (rest : Text) (next : Held → Kinds) → short_fault c false (asked b v) rest nothing_held next ≡ [] → ⊥
    flag c false false rest next h = some_fault _ _ h
    flag c false true rest next h = some_fault _ _ h
    flag c true v rest next h = some_fault _ _ h

    go : (o : Option ℕ) → bundle_step_fault top.rules false o flags 0 nothing_held (flags_fault top.rules false k) ≡ []
        → bundle_step top.rules o flags 0 plain nothing_held (bundle_met top.rules k) ≡ (nothing_held, plain)
    go None h = refl
    go (Some x) h = absurd (flag top.rules (not false && has_short help_flag x) (not false && has_short version_flag x) (drop (length (encode_utf8 x)) flags) _ h)

-- the word is not `--`, nor the name of a command
abbrev StrayFault : Text → Option Text → Kinds
StrayFault word name =
    let met = subcommand_or_other top.rules name idle 1 word nothing_held in
    or_else (other_fault top name word nothing_held) (step_fault top 1 met.0 met.1)

stray_fails : (word : Text) → bytes_eq word (45 ∷ 45 ∷ []) ≡ false → StrayFault word None ≡ [] → ⊥
stray_fails word other e = long (long_of word) (rw other at e)
  where
    plain_fails : (h : Held) → step_fault top 1 h value ≡ [] → ⊥
    plain_fails h f = cc

    short : (o : Option Text) → or_else (option_map_or (λ flags. bundle_fault top.rules false flags nothing_held) o [])
        (step_fault top 1 (short_or_plain top.rules idle word o nothing_held).0 (short_or_plain top.rules idle word o nothing_held).1) ≡ [] → ⊥
    short None f = cc
    short (Some flags) f =
        let met = bundle top.rules flags nothing_held in
        let taken = after_flag top.rules idle word met.0 met.1 in
        let steps = none_fails (bundle_fault top.rules false flags nothing_held) (step_fault top 1 taken.0 taken.1) f in
        let is : met ≡ (nothing_held, plain) = flags_fail (length flags) flags steps.0 in
        let last = subst (λ (m : Held × Outcome). step_fault top 1 (after_flag top.rules idle word m.0 m.1).0 (after_flag top.rules idle word m.0 m.1).1 ≡ []) is steps.1 in
        cc

    long : (o : Option (Text × Option Text)) → or_else (flag_word_fault top.rules false o word nothing_held)
        (step_fault top 1 (long_or_other top.rules idle word o nothing_held).0 (long_or_other top.rules idle word o nothing_held).1) ≡ [] → ⊥
    long None f = short (short_of word) f
    long (Some p) f = long_fails top.rules (not false && has_long help_flag p.0) (not false && has_long version_flag p.0) p.1 (none_fails (flag_word_fault top.rules false (Some p) word nothing_held) _ f).0

-- ---- a command that a word names

abbrev start : Walk
start = walk_from nothing_held

-- the command of a command line that a word names
abbrev pub named_by : App → Text → Option Shape
named_by a word = find (λ s. answers_to word (label_of s)) a.subs

met_by : (a : App) (word : Text) (o : Option Shape) → named_by a word ≡ o → subcommand_met (names_of a) idle word ≡ option_map (λ (s : Shape). s.name) o
met_by a word o is =
    ap (option_map (λ (p : Text × List Text). p.0)) (sym (find-map (answers_to word) label_of a.subs) ∙ ap (option_map label_of) is) ∙ names_are o
  where
    names_are : (o : Option Shape) → option_map (λ (p : Text × List Text). p.0) (option_map label_of o) ≡ option_map (λ (s : Shape). s.name) o
    names_are None = refl
    names_are (Some s) = refl

-- the walk over the words stops there
stops_at : (a : App) (word name : Text) (rest : List Text) → subcommand_met (names_of a) idle word ≡ Some name
    → (walk a.top.rules (names_of a) nothing_held (word ∷ rest)).stopped ≡ Some (name, rest)
unfolding walked
stops_at a word name rest met =
    let at : walked a.top.rules (names_of a) start word ≡ record start { stopped = Some (name, []) } =
    ap (λ (o : Option Text). after_step a.top.rules word start (subcommand_or_other a.top.rules o idle 1 word nothing_held).0 (subcommand_or_other a.top.rules o idle 1 word nothing_held).1) met in
    ap (λ (w : Walk). (fold (walked a.top.rules (names_of a)) w rest).stopped) at
    ∙ ap (λ (w : Walk). w.stopped) (sym (walk_stopped a.top.rules (names_of a) start name [] rest))

-- the words after it have no fault of their own
passes_behind : (a : App) (name : Text) (words rest : List Text) → built_fault a nothing_held words ≡ []
    → (walk a.top.rules (names_of a) nothing_held words).stopped ≡ Some (name, rest) → entered_fault a (Some (name, rest)) ≡ []
passes_behind a name words rest e stops =
    let stop = (walk a.top.rules (names_of a) nothing_held words).stopped in
    let steps = none_fails (walk_fault a.top (names_of a) start words) _ e in
    let below : entered_fault a stop ≡ [] = (none_fails (entered_fault a stop) _ steps.1).0 in
    subst (λ o. entered_fault a o ≡ []) stops below

-- a command has only one name
abbrev HasOneName : Shape → Type 0
HasOneName s = s.aliases ≡ []

-- a command that a word names has this word as its name
own_name : (xs : List Shape) → Each HasOneName xs → (word : Text) (s : Shape) → find (λ s. answers_to word (label_of s)) xs ≡ Some s → s.name ≡ word
own_name [] one word s e = cc
own_name (x ∷ xs) one word s e = go (answers_to word (label_of x)) refl e (own_name xs one.1 word s)
  where
    without_or : (b : Bool) → (b || false) ≡ true → b ≡ true
    without_or true h = refl
    without_or false h = h

    named : answers_to word (label_of x) ≡ true → x.name ≡ word
    named h =
        let plain : (bytes_eq x.name word || false) ≡ true =
        subst (λ (others : List Text). (bytes_eq x.name word || list_any (λ alias. bytes_eq alias word) others) ≡ true) one.0 h in
        (bytes_eq-Decides x.name word).0 (without_or (bytes_eq x.name word) plain)

    go : (b : Bool) → answers_to word (label_of x) ≡ b → cond b (Some x) (find (λ s. answers_to word (label_of s)) xs) ≡ Some s
        → (find (λ s. answers_to word (label_of s)) xs ≡ Some s → s.name ≡ word) → s.name ≡ word
    go true is f later = ap (λ (s : Shape). s.name) (sym (some_same x s f)) ∙ named is
    go false is f later = later f

pub named_so : (word : Text) (s : Shape) → named_by line word ≡ Some s → s.name ≡ word
named_so word s e = own_name line.subs (refl, (refl, (refl, (refl, (refl, (refl, tt)))))) word s e

-- the name of one of the commands
abbrev pub IsCommandName : Text → Type 0
IsCommandName name =
    (name ≡ codes "check") ⊎ ((name ≡ codes "run") ⊎ ((name ≡ codes "sweep") ⊎ ((name ≡ codes "series") ⊎ (name ≡ codes "explain"))))

-- the name of a command that was entered
pub entered_name : (name : Text) (rows : List Row) → IsEntered name rows → IsCommandName name
entered_name name rows e =
    let level = e.1.1.0 in
    let found = e.1.1.1 in
    let is : (level.name ≡ codes "help") ⊎ IsCommandName level.name =
    found_holds (λ s. (s.name ≡ codes "help") ⊎ IsCommandName s.name) (λ s. answers_to name (label_of s)) line.subs
    (inr (inl refl), (inr (inr (inl refl)), (inr (inr (inr (inl refl))), (inr (inr (inr (inr (inl refl)))), (inr (inr (inr (inr (inr refl)))), (inl refl, tt)))))) level found in
    elim (subst (λ n. (n ≡ codes "help") ⊎ IsCommandName n) (named_so name level found) is) [
      | inl help ↦ absurd (e.0 help)
      | inr named ↦ named
    ]

-- ---- words without a fault

-- the words, if they have no fault: the name of a command, and words that it takes
pub record Taken (words : List Text) : Type 0 where
  pub name : Text
  pub rest : List Text
  pub rows : List Row
  pub first : words ≡ name ∷ rest
  pub enters : subcommand_of command_line words ≡ Some (name, rows)
  pub is_entered : IsEntered name rows

-- the walk over the words ends first
walk_passes : (words : List Text) → fault_of command_line words ≡ [] → walk_fault top names start words ≡ []
walk_passes words e = (none_fails (walk_fault top names start words) _ e).0

-- `help` is a request for help
help_fails : (rest : List Text) → walk_fault top names start (codes "help" ∷ rest) ≡ [] → ⊥
unfolding walk_fault
help_fails rest e = cc

-- after `--` every word is an extra argument, and a command is missing
dashes_fail : (rest : List Text) → fault_of command_line ((45 ∷ 45 ∷ []) ∷ rest) ≡ [] → ⊥
unfolding clap_on_literals
dashes_fail [] e =
    let missing : fault_of command_line ((45 ∷ 45 ∷ []) ∷ []) ≡ DisplayHelpOnMissingArgumentOrSubcommand ∷ [] = refl in
    cc (sym e ∙ missing)
dashes_fail (word ∷ rest) e =
    let walks : walk_fault top names start ((45 ∷ 45 ∷ []) ∷ word ∷ rest) ≡ [] = walk_passes ((45 ∷ 45 ∷ []) ∷ word ∷ rest) e in
    cc

other_fails : (word : Text) (rest : List Text) → subcommand_met names idle word ≡ None → bytes_eq word (45 ∷ 45 ∷ []) ≡ false
    → walk_fault top names start (word ∷ rest) ≡ [] → ⊥
unfolding walk_fault
other_fails word rest none other e =
    let turn : StrayFault word (subcommand_met names idle word) ≡ [] = (none_fails (turn_fault top names start word) _ e).0 in
    stray_fails word other (subst (λ o. StrayFault word o ≡ []) none turn)

is_word : (a b : Text) → bytes_eq a b ≡ true → a ≡ b
is_word a b same = (bytes_eq-Decides a b).0 same

-- the first word: the name of a command, `--`, or another word
first_word : (word : Text) (rest : List Text) → fault_of command_line (word ∷ rest) ≡ [] → Taken (word ∷ rest)
first_word word rest e = by_name (named_by line word) refl
  where
    by_dashes : (b : Bool) → bytes_eq word (45 ∷ 45 ∷ []) ≡ b → subcommand_met names idle word ≡ None → Taken (word ∷ rest)
    by_dashes true is none = absurd (dashes_fail rest (subst (λ w. fault_of command_line (w ∷ rest) ≡ []) (is_word word _ is) e))
    by_dashes false is none = absurd (other_fails word rest none is (walk_passes (word ∷ rest) e))

    not_help : word ≡ codes "help" → ⊥
    not_help is = help_fails rest (subst (λ w. walk_fault top names start (w ∷ rest) ≡ []) is (walk_passes (word ∷ rest) e))

    by_name : (o : Option Shape) → named_by line word ≡ o → Taken (word ∷ rest)
    by_name None none = by_dashes (bytes_eq word (45 ∷ 45 ∷ [])) refl (met_by line word None none)
    by_name (Some level) is =
        let own : level.name ≡ word = named_so word level is in
        let stops = stops_at line word word rest (met_by line word (Some level) is ∙ ap Some own) in
        let below = passes_behind line word (word ∷ rest) rest e stops in
        let passes : level_fault level [] nothing_held rest false [] ≡ [] =
        subst (λ o. option_map_or (λ s. level_fault s [] nothing_held rest false []) o [] ≡ []) is below in
        let enters : subcommand_of command_line (word ∷ rest) ≡ Some (level.name, rows_after level.rules [] rest) =
        ap (entered line) stops ∙ ap (option_map (λ s. rows_at s rest)) is in
        record {
          name = word;
          rest = rest;
          rows = rows_after level.rules [] rest;
          first = refl;
          enters = enters ∙ ap (λ n. Some (n, rows_after level.rules [] rest)) own;
          is_entered = (not_help, (rest, (level, is, passes, refl)));
        }

-- the words that meet no fault
pub taken : (words : List Text) → fault_of command_line words ≡ [] → Taken words
unfolding clap_on_literals
taken [] e =
    let missing : fault_of command_line [] ≡ DisplayHelpOnMissingArgumentOrSubcommand ∷ [] = refl in
    let bad = sym e ∙ missing in
    absurd cc
taken (word ∷ rest) e = first_word word rest e
