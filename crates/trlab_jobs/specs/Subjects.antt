-- The kinds of inputs, and their first words.
use Rattle.std.specs.Prelude.{ℕ, Bool, List, [], ◌∷◌, codes, map, Option, None, Some, if◌then◌else◌, bytes_eq}
use Rattle.std.specs.{List.list_any, Char.to_ascii_lowercase}
use Rattle.trlab_jobs.specs.declared.subject.Subject.{Subject, TheVariants.{Job, Sweep, Check}}

-- whether a word is this name, in small or capital letters
abbrev pub is_named : List ℕ → List ℕ → Bool
is_named word name = bytes_eq (map to_ascii_lowercase word) (map to_ascii_lowercase name)

-- the words with which a check text may begin
abbrev pub program_words : List (List ℕ)
program_words = codes "motion" ∷ codes "change" ∷ codes "code" ∷ codes "notes" ∷ []

-- the kind of input that begins with this word, in small or capital letters: a job with `road`, a sweep with
-- `sweep`, a check with one of `program_words`; none for any other word
abbrev pub subject_named : List ℕ → Option Subject
subject_named word =
    if is_named word (codes "road") then Some Job
    else if is_named word (codes "sweep") then Some Sweep
    else if list_any (is_named word) program_words then Some Check else None
