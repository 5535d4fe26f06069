use Rattle.std.proofs.Common.{arith, inl, inr, refl, subst, codes, rules}
use Rattle.trlab_bounds.specs.declared.runs.TheConstants.{MAX_RUNNERS, MAX_STEPS, MAX_WORKERS}
use Rattle.clap.specs.Words.{found_of, rows_of}
use Rattle.trlab_command_line.{specs.CommandLine.IsEntered, proofs.CommandLine.entered_name}
use Rattle.trlab_command_line.proofs.Levels.{explain, flag_of as flag_has, number_of as number_has, option_of}
use Rattle.trlab_command_line.proofs.Levels.{run, series, sweep}
use Rattle.trlab_command_line.proofs.arguments.request_of.Goals as goal

pub thread_count_of-requires : goal.thread_count_of-requires
thread_count_of-requires c =
    let rows = rows_of (found_of c.args.matches.now) in
    let entered : IsEntered (codes "run") rows = subst (λ n. IsEntered n rows) c.in-run.is c.requires in
    option_of run (codes "workers") (codes "1") 1 MAX_WORKERS refl rows entered

pub option_number-requires : goal.option_number-requires
option_number-requires c =
    let rows = rows_of (found_of c.args.matches.now) in
    let entered : IsEntered (codes "run") rows = subst (λ n. IsEntered n rows) c.in-run.is c.requires in
    let given = option_of run (codes "every") (codes "1") 1 MAX_STEPS refl rows entered in
    (1, MAX_STEPS, given.0, omega arith, given.1)

pub option_number-requires-in-run : goal.option_number-requires-in-run
option_number-requires-in-run c =
    let rows = rows_of (found_of c.args.matches.now) in
    let entered : IsEntered (codes "run") rows = subst (λ n. IsEntered n rows) c.in-run.is c.requires in
    let given = option_of run (codes "from") (codes "0") 0 MAX_STEPS refl rows entered in
    (0, MAX_STEPS, given.0, omega arith, given.1)

pub is_flag_given-requires : goal.is_flag_given-requires
is_flag_given-requires c =
    let rows = rows_of (found_of c.args.matches.now) in
    let entered : IsEntered (codes "run") rows = subst (λ n. IsEntered n rows) c.in-run.is c.requires in
    flag_has run (codes "progress") refl rows entered

pub thread_count_of-requires-in-sweep : goal.thread_count_of-requires-in-sweep
thread_count_of-requires-in-sweep c =
    let rows = rows_of (found_of c.args.matches.now) in
    let entered : IsEntered (codes "sweep") rows = subst (λ n. IsEntered n rows) c.in-sweep.is c.requires in
    option_of sweep (codes "runners") (codes "1") 1 MAX_RUNNERS refl rows entered

pub thread_count_of-requires-in-sweep-2 : goal.thread_count_of-requires-in-sweep-2
thread_count_of-requires-in-sweep-2 c =
    let rows = rows_of (found_of c.args.matches.now) in
    let entered : IsEntered (codes "sweep") rows = subst (λ n. IsEntered n rows) c.in-sweep.is c.requires in
    option_of sweep (codes "workers") (codes "1") 1 MAX_WORKERS refl rows entered

pub is_flag_given-requires-in-sweep : goal.is_flag_given-requires-in-sweep
is_flag_given-requires-in-sweep c =
    let rows = rows_of (found_of c.args.matches.now) in
    let entered : IsEntered (codes "sweep") rows = subst (λ n. IsEntered n rows) c.in-sweep.is c.requires in
    flag_has sweep (codes "progress") refl rows entered

pub thread_count_of-requires-in-series : goal.thread_count_of-requires-in-series
thread_count_of-requires-in-series c =
    let rows = rows_of (found_of c.args.matches.now) in
    let entered : IsEntered (codes "series") rows = subst (λ n. IsEntered n rows) c.in-series.is c.requires in
    option_of series (codes "workers") (codes "1") 1 MAX_WORKERS refl rows entered

pub option_number-requires-in-series : goal.option_number-requires-in-series
option_number-requires-in-series c =
    let rows = rows_of (found_of c.args.matches.now) in
    let entered : IsEntered (codes "series") rows = subst (λ n. IsEntered n rows) c.in-series.is c.requires in
    let given = option_of series (codes "every") (codes "1") 1 MAX_STEPS refl rows entered in
    (1, MAX_STEPS, given.0, omega arith, given.1)

pub option_number-requires-in-series-2 : goal.option_number-requires-in-series-2
option_number-requires-in-series-2 c =
    let rows = rows_of (found_of c.args.matches.now) in
    let entered : IsEntered (codes "series") rows = subst (λ n. IsEntered n rows) c.in-series.is c.requires in
    let given = option_of series (codes "from") (codes "0") 0 MAX_STEPS refl rows entered in
    (0, MAX_STEPS, given.0, omega arith, given.1)

pub is_flag_given-requires-in-series : goal.is_flag_given-requires-in-series
is_flag_given-requires-in-series c =
    let rows = rows_of (found_of c.args.matches.now) in
    let entered : IsEntered (codes "series") rows = subst (λ n. IsEntered n rows) c.in-series.is c.requires in
    flag_has series (codes "progress") refl rows entered

pub explain_request_from_matches-requires-clause-number : goal.explain_request_from_matches-requires-clause-number
explain_request_from_matches-requires-clause-number c =
    let rows = rows_of (found_of c.args.matches.now) in
    let entered : IsEntered (codes "explain") rows = subst (λ n. IsEntered n rows) c.in-explain.is c.requires in
    number_has explain refl rows entered

pub explain_request_from_matches-requires-clause-json : goal.explain_request_from_matches-requires-clause-json
explain_request_from_matches-requires-clause-json c =
    let rows = rows_of (found_of c.args.matches.now) in
    let entered : IsEntered (codes "explain") rows = subst (λ n. IsEntered n rows) c.in-explain.is c.requires in
    flag_has explain (codes "json") refl rows entered

pub returns-in-run-clause-counts : goal.returns-in-run-clause-counts
returns-in-run-clause-counts c =
    let rows = rows_of (found_of c.args.matches.now) in
    let entered : IsEntered (codes "run") rows = subst (λ n. IsEntered n rows) c.in-run.is c.requires in
    let workers = c.thread_count_of.ensures in
    let every = option_of run (codes "every") (codes "1") 1 MAX_STEPS refl rows entered in
    let from = option_of run (codes "from") (codes "0") 0 MAX_STEPS refl rows entered in
    let some = c.option_number.ensures.in_range 1 MAX_STEPS every.0 (omega arith) every.1 in
    let few = c.option_number-in-run.ensures.in_range 0 MAX_STEPS from.0 (omega arith) from.1 in
    ((workers.at_least_one, workers.at_most_max_workers), some, few.1)

pub returns-in-series-clause-counts : goal.returns-in-series-clause-counts
returns-in-series-clause-counts c =
    let rows = rows_of (found_of c.args.matches.now) in
    let entered : IsEntered (codes "series") rows = subst (λ n. IsEntered n rows) c.in-series.is c.requires in
    let workers = c.thread_count_of-in-series.ensures in
    let every = option_of series (codes "every") (codes "1") 1 MAX_STEPS refl rows entered in
    let from = option_of series (codes "from") (codes "0") 0 MAX_STEPS refl rows entered in
    let some = c.option_number-in-series.ensures.in_range 1 MAX_STEPS every.0 (omega arith) every.1 in
    let few = c.option_number-in-series-2.ensures.in_range 0 MAX_STEPS from.0 (omega arith) from.1 in
    ((workers.at_least_one, workers.at_most_max_workers), some, few.1)

pub unreachable-requires : goal.unreachable-requires
unreachable-requires c = elim (entered_name c.args.name.now (rows_of (found_of c.args.matches.now)) c.requires) [
  | inl is ↦ c.in_default.not-check is
  | inr is ↦ elim is [
    | inl is ↦ c.in_default.not-run is
    | inr is ↦ elim is [
      | inl is ↦ c.in_default.not-sweep is
      | inr is ↦ elim is [
        | inl is ↦ c.in_default.not-series is
        | inr is ↦ c.in_default.not-explain is
      ]
    ]
  ]
]

pub returns-in-check-clause-answer : goal.returns-in-check-clause-answer
returns-in-check-clause-answer c = search rules
