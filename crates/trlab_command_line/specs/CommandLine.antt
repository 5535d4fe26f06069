-- The command line of `trlab`, as `clap` reads it, and the requests that its arguments make.
use Rattle.std.specs.Prelude.{ℕ, List, [], ◌∷◌, Some, codes, fold, pos, true, ◌≡◌, ◌⊎◌, Bool, Option, None}
use Rattle.std.specs.Prelude.{false, option_map, bytes_eq, Result, Ok, Err, if◌then◌else◌, ◌≤◌, ⊤, find}
use Rattle.std.specs.Str.Parse.{digits_value, without_leading_plus}
use Rattle.clap.specs.Words.{App, Rule, Shape, Text, new_app, new_rule, with_rule, with_subcommand, Row}
use Rattle.clap.specs.Words.{one_of, Kinds, first_of, built, fault_of, subcommand_of}
use Rattle.clap.specs.{Simple.{on_top, label_of}, declared.builder.action.ArgAction.TheVariants.SetTrue}
use Rattle.clap.specs.declared.builder.value_parser.ValueParser.TheVariants.{Signed, Bool as OfBool}
use Rattle.clap.specs.declared.error.kind.ErrorKind.{ErrorKind, TheVariants.{ArgumentConflict, InvalidValue}}
use Rattle.clap.specs.declared.error.kind.ErrorKind.TheVariants.{MissingRequiredArgument, UnknownArgument}
use Rattle.clap.specs.{Lexer.without_minus, Values.{Accepts, IsSignedIn, bool_text}, Kinds.or_else}
use Rattle.clap.specs.{Walk.{answers_to, nothing_held, rows_after}, Faults.level_fault}
use Rattle.trlab_bounds.specs.declared.runs.TheConstants.{MAX_RUNNERS, MAX_STEPS, MAX_WORKERS}
use Rattle.trlab_jobs.specs.declared.subject.Subject.{Subject, TheVariants.Job as JobText}
use Rattle.trlab_jobs.specs.declared.subject.Subject.TheVariants.{Sweep as SweepText, Check as CheckText}
use Rattle.trlab_explain.specs.declared.explain.Form.{Form, TheVariants.{Json, Text as Lines}}
use Rattle.trlab_explain.specs.declared.topics.Topic.{Topic, TheVariants.{Cause, Reason}}
use Rattle.trlab_command_line.specs.declared.arguments.explain.ExplainRequest.{ExplainRequest}
use Rattle.trlab_command_line.specs.declared.arguments.explain.ExplainRequest.TheVariants.{Text as OfText}
use Rattle.trlab_command_line.specs.declared.arguments.explain.ExplainRequest.TheVariants.{Number}
use Rattle.trlab_command_line.specs.declared.arguments.Request.{Request, TheVariants.{Check, Explain, Run}}
use Rattle.trlab_command_line.specs.declared.arguments.Request.TheVariants.{Series, Sweep}

-- The command line of `trlab`, as `clap` reads it.

-- the option `--name n`: an integer from `least` to `most`; without the option it is the numeral `default`
abbrev pub number_option : Text → ℕ → ℕ → Text → Rule
number_option name least most default = record (new_rule name) {
  long = Some name;
  value_names = 1;
  parser = Some (Signed (pos least) (pos most));
  defaults = default ∷ [];
}

-- the option `--name n`: an integer from 1 to `most`; without the option it is 1
abbrev pub count_option : Text → ℕ → Rule
count_option name most = number_option name 1 most (codes "1")

-- the option `--workers n`, from 1 to MAX_WORKERS; without the option 1
abbrev pub workers_option : Rule
workers_option = count_option (codes "workers") MAX_WORKERS

-- the option `--runners n`, from 1 to MAX_RUNNERS; without the option 1
abbrev pub runners_option : Rule
runners_option = count_option (codes "runners") MAX_RUNNERS

-- the option `--every n`, from 1 to MAX_STEPS; without the option 1
abbrev pub every_option : Rule
every_option = count_option (codes "every") MAX_STEPS

-- the option `--from s`, from 0 to MAX_STEPS; without the option 0
abbrev pub from_option : Rule
from_option = number_option (codes "from") 0 MAX_STEPS (codes "0")

-- the flag `--name`, an option without a value
abbrev pub flag : Text → Rule
flag name = record (new_rule name) { long = Some name; action = Some SetTrue }

-- the flag `--progress` of `run`, `sweep` and `series`: report progress on standard error
abbrev pub progress_flag : Rule
progress_flag = flag (codes "progress")

-- the flag `--json` of `explain`: print the explanation as a JSON object
abbrev pub json_flag : Rule
json_flag = flag (codes "json")

-- the first argument of `explain`, with any text: the name of a command, `cause` or `reason`
abbrev pub what_argument : Rule
what_argument = new_rule (codes "what")

-- the second argument of `explain`: an integer from 0 to 2^32 - 1
abbrev pub number_argument : Rule
number_argument = record (new_rule (codes "number")) { parser = Some (Signed (pos 0) (pos 4294967295)) }

-- the command `name`, with `arguments` (options, flags and others) added in order
abbrev pub command : Text → List Rule → App
command name arguments = fold with_rule (new_app name) arguments

-- the command `check`, which verifies a driver program and has no options
abbrev pub check_command : App
check_command = command (codes "check") []

-- a command that runs a job, `run` or `series`, with the options `--every`, `--from`, `--workers` and
-- `--progress`
abbrev pub job_command : Text → App
job_command name =
    command name (every_option ∷ from_option ∷ workers_option ∷ progress_flag ∷ [])

-- the command `run`, which prints the road of a job, with the options of `job_command`
abbrev pub run_command : App
run_command = job_command (codes "run")

-- the command `sweep`, which measures the flow on the roads of a sweep, with the options `--runners`,
-- `--workers` and `--progress`
abbrev pub sweep_command : App
sweep_command = command (codes "sweep") (runners_option ∷ workers_option ∷ progress_flag ∷ [])

-- the command `series`, which counts the traffic of a job in windows, with the options of `job_command`
abbrev pub series_command : App
series_command = job_command (codes "series")

-- the command `explain`, which explains an input, a cause or a reason, with its two arguments and the flag
-- `--json`
abbrev pub explain_command : App
explain_command = command (codes "explain") (what_argument ∷ number_argument ∷ json_flag ∷ [])

-- the program `trlab` without its commands: it has a version, its arguments begin with the name of a command
-- and not of the program, and without arguments help is printed
abbrev pub program : App
program = on_top (λ s. record s {
  no_binary_name = true;
  subcommand_required = true;
  arg_required_else_help = true;
  has_version = true;
}) (new_app (codes "trlab"))

-- the commands of the program: `check`, `run`, `sweep`, `series` and `explain`
abbrev pub commands : List Shape
commands =
    check_command.top ∷ run_command.top ∷ sweep_command.top ∷ series_command.top
    ∷ explain_command.top ∷ []

-- the command line: the program with its commands
abbrev pub command_line : App
command_line = fold with_subcommand program commands

-- The values of arguments.

-- the number of a decimal numeral, which may begin with a plus sign: 12 for `12` and `+12`
abbrev pub numeral_value : Text → ℕ
numeral_value numeral = digits_value 10 (without_leading_plus numeral)

-- among the matches of a command, `option` has a numeral with the value `number`
abbrev pub GivesNumber : Text → List Row → ℕ → Type 0
GivesNumber option matches number =
    (numeral : Text) × (one_of option matches ≡ Some numeral) × (numeral_value numeral ≡ number)

-- among the matches of a command, `option` has the text `value` without its minus sign, if it has one, and
-- its parser accepts `value` as a number from `least` to `most`. The numbers are not negative, so only 0 may
-- have a minus sign
abbrev pub HasValueFrom : Text → ℕ → ℕ → List Row → Text → Type 0
HasValueFrom option least most matches value =
    (one_of option matches ≡ Some (without_minus value)) × IsSignedIn (pos least) (pos most) value

-- the number of an argument among the matches of a command; none if the argument is not given
abbrev pub argument_number : Text → List Row → Option ℕ
argument_number argument matches = option_map numeral_value (one_of argument matches)

-- among the matches of a command, `argument` is not given, or has a number below 2^32 that its parser accepts
abbrev pub MayHaveNumber : Text → List Row → Type 0
MayHaveNumber argument matches =
    (one_of argument matches ≡ None)
    ⊎ ((value : Text) × HasValueFrom argument 0 4294967295 matches value)

-- the value of a flag among the matches of a command: the text `true` if the flag is given, otherwise `false`
abbrev pub flag_text : Bool → Option Text
flag_text given = Some (bool_text given)

-- is the value of a flag among the matches of a command the text `true`?
abbrev pub is_true_value : Option Text → Bool
is_true_value None = false
is_true_value (Some text) = bytes_eq text (bool_text true)

-- is `flag` given? That is, is its value among the matches of a command `true`?
abbrev pub is_flag_given : Text → List Row → Bool
is_flag_given flag matches = is_true_value (one_of flag matches)

-- among the matches of a command, the value of `flag` is the text `true` if `given` is true, else `false`
abbrev pub GivesFlag : Text → List Row → Bool → Type 0
GivesFlag flag matches given = one_of flag matches ≡ flag_text given

-- among the matches of a command, `flag` has one of the values `true` and `false`, which its parser accepts
abbrev pub HasFlagValue : Text → List Row → Type 0
HasFlagValue flag matches = (value : Text) × (one_of flag matches ≡ Some value) × Accepts false OfBool value

-- The requests that the arguments of `explain` make.

-- the kind of input that the command `name` reads; none if `name` is not `run`, `sweep` or `check`
abbrev pub subject_of_command : List ℕ → Option Subject
subject_of_command name =
    if bytes_eq name (codes "run") then Some JobText
    else if bytes_eq name (codes "sweep") then Some SweepText
    else if bytes_eq name (codes "check") then Some CheckText else None

-- the topic that `name` names, `cause` or `reason`; none for any other name
abbrev pub topic_named : List ℕ → Option Topic
topic_named name =
    if bytes_eq name (codes "cause") then Some Cause
    else if bytes_eq name (codes "reason") then Some Reason else None

-- the form of an explanation: JSON if `--json` is given (`true`), and otherwise text
abbrev pub form_by : Bool → Form
form_by false = Lines
form_by true = Json

-- the request of `explain` with a first argument, or its kind of error. After a command, a number is not
-- allowed; after a topic, `--json` is not allowed and a number is needed; any other first argument is invalid
abbrev pub request_by_name : Option Subject → Option Topic → Option ℕ → Bool → Result ExplainRequest ErrorKind
request_by_name (Some subject) topic None json = Ok (OfText (Some subject) (form_by json))
request_by_name (Some subject) topic (Some number) json = Err UnknownArgument
request_by_name None (Some topic) number true = Err ArgumentConflict
request_by_name None (Some topic) (Some number) false = Ok (Number topic number)
request_by_name None (Some topic) None false = Err MissingRequiredArgument
request_by_name None None number json = Err InvalidValue

-- the request of `explain`, or its kind of error, by its two arguments, each of which may be missing, and by
-- whether `--json` is given; without arguments, the input is explained as the kind that it is meant to be
abbrev pub explain_request : Option Text → Option ℕ → Bool → Result ExplainRequest ErrorKind
explain_request None number json = Ok (OfText None (form_by json))
explain_request (Some name) number json = request_by_name (subject_of_command name) (topic_named name) number json

-- the request of `explain`, or its kind of error, from the matches of its arguments
abbrev pub request_from_matches : List Row → Result ExplainRequest ErrorKind
request_from_matches matches =
    explain_request (first_of (codes "what") matches) (argument_number (codes "number") matches)
    (is_flag_given (codes "json") matches)

-- the kinds of error of a request of `explain`: empty if it is accepted, and otherwise its one kind
abbrev pub error_kinds : Result ExplainRequest ErrorKind → Kinds
error_kinds (Ok request) = []
error_kinds (Err kind) = kind ∷ []

-- the kinds of error of the command that was entered with these matches: that the arguments of `explain` do
-- not go together; none for other commands, or if none was entered
abbrev pub explain_arguments_fault : Option (Text × List Row) → Kinds
explain_arguments_fault None = []
explain_arguments_fault (Some (name, matches)) =
    if bytes_eq name (codes "explain") then error_kinds (request_from_matches matches) else []

-- The requests of the command line.

-- the name of the command of a request
abbrev pub command_name : Request → Text
command_name Check = codes "check"
command_name (Run workers every from progress) = codes "run"
command_name (Sweep runners workers progress) = codes "sweep"
command_name (Series workers every from progress) = codes "series"
command_name (Explain request) = codes "explain"

-- the matches of a command give the values of a request: the numbers of its options and whether progress is
-- reported; for `explain` the request of its arguments
abbrev pub MatchesGive : List Row → Request → Type 0
MatchesGive matches Check = ⊤
MatchesGive matches (Run workers every from progress) =
    GivesNumber (codes "workers") matches workers × GivesNumber (codes "every") matches every
    × GivesNumber (codes "from") matches from × GivesFlag (codes "progress") matches progress
MatchesGive matches (Sweep runners workers progress) =
    GivesNumber (codes "runners") matches runners × GivesNumber (codes "workers") matches workers
    × GivesFlag (codes "progress") matches progress
MatchesGive matches (Series workers every from progress) =
    GivesNumber (codes "workers") matches workers × GivesNumber (codes "every") matches every
    × GivesNumber (codes "from") matches from × GivesFlag (codes "progress") matches progress
MatchesGive matches (Explain request) = request_from_matches matches ≡ Ok request

-- `request` is the request of the command that was entered: it has the name of this command and the values of
-- its matches
abbrev pub IsRequestOf : Option (Text × List Row) → Request → Type 0
IsRequestOf entered request =
    (matches : List Row) × (entered ≡ Some (command_name request, matches)) × MatchesGive matches request

-- the numbers of a request are in the ranges of the engines: 1 to MAX_WORKERS workers, 1 to MAX_RUNNERS
-- runners, 1 to MAX_STEPS for `every`, and at most MAX_STEPS for `from`
abbrev pub FitsEngines : Request → Type 0
FitsEngines Check = ⊤
FitsEngines (Run workers every from progress) =
    ((1 ≤ workers) × (workers ≤ MAX_WORKERS))
    × ((1 ≤ every) × (every ≤ MAX_STEPS)) × (from ≤ MAX_STEPS)
FitsEngines (Sweep runners workers progress) =
    ((1 ≤ runners) × (runners ≤ MAX_RUNNERS)) × ((1 ≤ workers) × (workers ≤ MAX_WORKERS))
FitsEngines (Series workers every from progress) =
    ((1 ≤ workers) × (workers ≤ MAX_WORKERS))
    × ((1 ≤ every) × (every ≤ MAX_STEPS)) × (from ≤ MAX_STEPS)
FitsEngines (Explain request) = ⊤

-- does a request read the input? Each one does, but not the explanation of a number
abbrev pub reads_input : Request → Bool
reads_input Check = true
reads_input (Run workers every from progress) = true
reads_input (Sweep runners workers progress) = true
reads_input (Series workers every from progress) = true
reads_input (Explain (OfText subject form)) = true
reads_input (Explain (Number topic number)) = false

-- is the whole output of a request made before its first byte is written? Not that of `run` and `series`,
-- which is written as it is made
abbrev pub writes_at_once : Request → Bool
writes_at_once Check = true
writes_at_once (Run workers every from progress) = false
writes_at_once (Sweep runners workers progress) = true
writes_at_once (Series workers every from progress) = false
writes_at_once (Explain request) = true

-- the first of the arguments is the name of the command of the request, for example `run`
abbrev pub IsNamedFirst : List Text → Request → Type 0
IsNamedFirst arguments request = (rest : List Text) × (arguments ≡ command_name request ∷ rest)

-- the kinds of error of the arguments: the errors of `clap`, or if it finds none, the error that arguments of
-- `explain` do not go together; empty if the arguments are accepted
abbrev pub arguments_fault : List Text → Kinds
arguments_fault arguments =
    or_else (fault_of command_line arguments) (explain_arguments_fault (subcommand_of command_line arguments))

-- the command `name` accepts the arguments `arguments`, and gives them the matches `matches`
abbrev pub TakesArguments : Text → List Text → List Row → Type 0
TakesArguments name arguments matches = (level : Shape)
    × (find (λ s. answers_to name (label_of s)) (built command_line).subs ≡ Some level)
    × (level_fault level [] nothing_held arguments false [] ≡ [])
    × (matches ≡ rows_after level.rules [] arguments)

-- the command `name`, which is not `help`, accepts some arguments, and gives them the matches `matches`
abbrev pub IsEntered : Text → List Row → Type 0
IsEntered name matches =
    (name ≡ codes "help" → ⊥) × ((arguments : List Text) × TakesArguments name arguments matches)
