-- Which steps are shown.
use Rattle.std.proofs.Common.{◌≡◌, ℕ, ◌+◌, ◌-◌, ◌*◌, ◌/◌, ◌%◌, ◌<◌, ◌≤◌, ◌&&◌, Bool, true, false, List, refl}
use Rattle.std.proofs.Common.{sym, ◌∙◌, ap, subst, arith, inl, inr, nat_eq, nat_le, Result, Ok, Err, eqb-true}
use Rattle.std.proofs.{Common.{le-leb, leb-true, div-add-mod', mod-lt}, lemmas.Bool.{cases_lt, false≢true}}
use Rattle.std.proofs.{lemmas.Nat.mul-le, Math.Nat.mul-mod_left}
use Rattle.trlab_texts.specs.Reading.{LocatedFault}
use Rattle.trlab_jobs.specs.Job.{Job}
use Rattle.trlab_campaign.specs.Output.{IsOutput, IsShownOutput, IsOutputForJob, each_step, every_from}
use Rattle.trlab_campaign.specs.{Output.{shown_text, IsOutputForResult}, Laws.EveryNthStepIsShown}
use Rattle.trlab_campaign.{specs.Laws.EveryStepFromStartIsEach, proofs.Lines.pieces_agree}

-- both sides of a conjunction
both : (a b : Bool) → (a && b) ≡ true → (a ≡ true) × (b ≡ true)
both true b is = (refl, is)
both false b is = absurd (false≢true is)

both_true : (a b : Bool) → a ≡ true → b ≡ true → (a && b) ≡ true
both_true a b p q = rw (p, q) refl

-- a step that is shown is a multiple of `every` steps after `from`
pub apart : (every from step : ℕ) → every_from every from step ≡ true → (k : ℕ) × (step ≡ from + k * every)
apart every from step is =
    let parts = both (nat_le from step) (nat_eq ((step - from) % every) 0) is in
    let past : from ≤ step = leb-true from step parts.0 in
    let none : (step - from) % every ≡ 0 = eqb-true _ _ parts.1 in
    let whole = div-add-mod' (step - from) every in
    ((step - from) / every, omega (arith, past, none, whole))

-- and each such step is shown
at_multiple : (every from k : ℕ) → every_from every from (from + k * every) ≡ true
at_multiple every from k =
    let behind : from + k * every - from ≡ k * every = omega arith in
    let none : (from + k * every - from) % every ≡ 0 = ap (λ n. n % every) behind ∙ mul-mod_left k every in
    both_true _ _ (le-leb from (from + k * every) (omega arith)) (rw none refl)

pub every_so_many_are_shown : EveryNthStepIsShown
every_so_many_are_shown every from step =
    (apart every from step, λ at. subst (λ (s : ℕ). every_from every from s ≡ true) (sym at.1) (at_multiple every from at.0))

-- a test that is not true is false
not_true : (b : Bool) → (b ≡ true → ⊥) → b ≡ false
not_true true never = absurd (never refl)
not_true false never = refl

-- no step is shown between the last and the end of the run
pub none_after : (every from steps last step : ℕ) → 1 ≤ every → from ≤ steps → last ≡ steps - (steps - from) % every → last < step → step ≤ steps → every_from every from step ≡ false
none_after every from steps last step some past is after within = not_true _ shown_is_absurd
  where
    shown_is_absurd : every_from every from step ≡ true → ⊥
    shown_is_absurd shown =
        let at = apart every from step shown in
        let count = (steps - from) / every in
        let whole = div-add-mod' (steps - from) every in
        let rest = mod-lt (steps - from) {m = every} (omega (arith, some)) in
        let first : last ≡ from + count * every = omega (arith, is, past, whole) in
        elim (cases_lt count at.0) [
          | inl later ↦ let product = mul-le (count + 1) every at.0 every (omega (arith, later)) (omega arith) in
              let more : (count + 1) * every ≡ count * every + every = omega arith in
              omega (arith, at.1, within, whole, rest, product, more, past)
          | inr early ↦ let product = mul-le at.0 every count every early (omega arith) in omega (arith, at.1, after, first, product)
        ]

-- the last is shown
pub last_shown : (every from steps last : ℕ) → from ≤ steps → last ≡ steps - (steps - from) % every → every_from every from last ≡ true
last_shown every from steps last past is =
    let count = (steps - from) / every in
    let whole = div-add-mod' (steps - from) every in
    let at : last ≡ from + count * every = omega (arith, is, past, whole) in
    subst (λ (s : ℕ). every_from every from s ≡ true) (sym at) (at_multiple every from count)

-- every step from step 0 on is each step
every_one : (step : ℕ) → every_from 1 0 step ≡ each_step step
every_one step =
    let one : step ≡ 0 + step * 1 = omega arith in
    subst (λ (s : ℕ). every_from 1 0 s ≡ true) (sym one) (at_multiple 1 0 step)

-- if the same steps are shown, the outputs are the same
shown_alike : (shown other : ℕ → Bool) → ((step : ℕ) → shown step ≡ other step) → (says : Result Job LocatedFault) (rejected : Bool) (out : List ℕ)
    → IsOutputForResult (IsOutputForJob shown) says rejected out → IsOutputForResult (IsOutputForJob other) says rejected out
shown_alike shown other same (Ok job) rejected out p =
    let roads = p.1.0 in
    let is = p.1.1 in
    let agree = pieces_agree (λ s. shown_text shown s (roads s)) (λ s. shown_text other s (roads s)) 0 (job.steps + 1) (λ s below. rw (same s) refl) in
    (p.0, (roads, record { road_at = is.road_at; pictures = is.pictures ∙ agree }))
shown_alike shown other same (Err fault) rejected out p = p

pub each_of_every_one : (text : List ℕ) (rejected : Bool) (out : List ℕ) → IsShownOutput (every_from 1 0) text rejected out → IsOutput text rejected out
each_of_every_one text rejected out p = (p.0, (p.1.0, shown_alike (every_from 1 0) each_step every_one p.0 rejected out p.1.1))

pub every_step_from_start_is_each : EveryStepFromStartIsEach
every_step_from_start_is_each text rejected out =
    (each_of_every_one text rejected out, λ p. (p.0, (p.1.0, shown_alike each_step (every_from 1 0) (λ step. sym (every_one step)) p.0 rejected out p.1.1)))
