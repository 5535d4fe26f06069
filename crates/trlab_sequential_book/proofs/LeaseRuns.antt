-- The steps that a lease has run continue a job's road and its tally.
use Rattle.std.proofs.Common.{◌≡◌, ℕ, suc, ◌+◌, ◌<◌, ◌==◌, not, true, Option, None, List, [], ◌∷◌, ◌++◌, refl}
use Rattle.std.proofs.Common.{sym, ◌∙◌, ap, subst, length, length-append, arith, get_or, drop, ◌&&◌, IsSome}
use Rattle.std.proofs.{Common.{Some, is_some, nat_le, if◌then◌else◌}, lemmas.List.drop_more}
use Rattle.trlab_road.specs.Cells.{Cells}
use Rattle.trlab_rules.specs.Rules.{Programs}
use Rattle.trlab_machine.specs.declared.dice.Dice.{Dice}
use Rattle.trlab_verify.specs.Verified.{CheckedProgram}
use Rattle.trlab_step.proofs.{AskedCars.same_dice, RunLaws.{force_all, run_continues, road_at_is_one}}
use Rattle.trlab_step.{proofs.OnTheWay.{IsSmallSum, like_start, room_for}, specs.Answers.dice_of}
use Rattle.trlab_step.specs.{Next.IsNext, Run.{Seed, Sheet, ComesTo, in_force, tally_sum, IsRuleFor}}
use Rattle.trlab_step.specs.{Run.{IsReachedByRun, suits}, declared.tally.StepTally.StepTally}
use Rattle.trlab_words.specs.declared.key.Key.{Key}
use Rattle.trlab_sequential_book.specs.{declared.lease.ExecutedStep.ExecutedStep, Sheets.RanUnderSheet}
use Rattle.trlab_sequential_book.specs.Leases.{LeadsTo, LeaseState, IsLease, with_executed_step}
use Rattle.trlab_sequential_book.specs.{Comparison.{RunsRoadOfJob, run_seed, progress_of}, Machine.JobState}

-- one more step
pub leads_push : (key : List ℕ) (number step : ℕ) (road last next : Cells) (xs : List ExecutedStep) (ran : ExecutedStep) → LeadsTo key number step road xs last
    → IsNext ran.rule (dice_of key number (step + length xs)) last next ran.tally → LeadsTo key number step road (xs ++ ran ∷ []) next
leads_push key number step road last next [] ran leads is =
    let e : step + 0 ≡ step = omega arith in
    let P : ℕ → Type 0 = λ s. IsNext ran.rule (dice_of key number s) road next ran.tally in
    let Q : Cells → Type 0 = λ r. IsNext ran.rule (dice_of key number (step + 0)) r next ran.tally in
    (next, subst P e (subst Q leads is), refl)
leads_push key number step road last next (x ∷ xs) ran leads is =
    let e : step + length (x ∷ xs) ≡ step + 1 + length xs = omega arith in
    let P : ℕ → Type 0 = λ s. IsNext ran.rule (dice_of key number s) last next ran.tally in
    (leads.0, leads.1, leads_push key number (step + 1) leads.0 last next xs ran leads.2 (subst P e is))

-- a run on its way, and steps that continue it under the rules in force, to a last road
pub record WayOn (seed : Seed) (sheet : Sheet) (step : ℕ) (sum : StepTally) (ran : List ExecutedStep) (last : Cells) : Type 0 where
  pub road : Cells
  pub run : IsReachedByRun (record { seed = seed; sheet = sheet; step = step; road = road; sum = sum })
  pub leads : LeadsTo seed.key seed.number step road ran last
  pub rules : RanUnderSheet sheet step ran

-- after one of these steps the sum is still small, and the other steps continue
pub record GoneOn (seed : Seed) (sheet : Sheet) (step : ℕ) (sum : StepTally) (ran : ExecutedStep) (more : List ExecutedStep) (last : Cells) : Type 0 where
  pub small : IsSmallSum (suc step) (tally_sum sum ran.tally)
  pub way : WayOn seed sheet (step + 1) (if nat_le seed.warm step then tally_sum sum ran.tally else sum) more last

pub go_on : (seed : Seed) (sheet : Sheet) (step : ℕ) (sum : StepTally) (ran : ExecutedStep) (more : List ExecutedStep) (last : Cells) → WayOn seed sheet step sum (ran ∷ more) last → GoneOn seed sheet step sum ran more last
go_on seed sheet step sum ran more last way =
    let next = way.leads.0 in
    let is : IsNext ran.rule (dice_of seed.key seed.number step) way.road next ran.tally = way.leads.1 in
    let here : step + 0 ≡ step = omega arith in
    let under : in_force sheet step ≡ Some ran.rule = subst (λ s. in_force sheet s ≡ Some ran.rule) here (way.rules 0 ran refl) in
    let after = if nat_le seed.warm step then tally_sum sum ran.tally else sum in
    let comes : ComesTo seed sheet (suc step) next after = run_continues seed sheet step way.road next sum ran.tally ran.rule way.run.comes under is in
    let like = like_start seed sheet (suc step) next after way.run.legal way.run.suits comes in
    let one : suc step ≡ step + 1 = omega arith in
    record {
      small = room_for (record { seed = seed; sheet = sheet; step = step; road = way.road; sum = sum }) ran.rule next ran.tally way.run like.legal is;
      way = record {
        road = next;
        run = record { legal = way.run.legal; suits = way.run.suits; comes = subst (λ s. ComesTo seed sheet s next after) one comes };
        leads = way.leads.2;
        rules = λ k other at. (let e : step + suc k ≡ step + 1 + k = omega arith in subst (λ s. in_force sheet s ≡ Some other.rule) e (way.rules (suc k) other at));
      };
    }

-- the last road has as many lanes as the road at the start
way_lanes : (seed : Seed) (sheet : Sheet) (step : ℕ) (sum : StepTally) (ran : List ExecutedStep) (last : Cells) → WayOn seed sheet step sum ran last → length last.lanes ≡ length seed.road.lanes
way_lanes seed sheet step sum [] last way =
    ap (λ (r : Cells). length r.lanes) way.leads ∙ (like_start seed sheet step way.road sum way.run.legal way.run.suits way.run.comes).same_lanes
way_lanes seed sheet step sum (ran ∷ more) last way =
    way_lanes seed sheet (step + 1) (if nat_le seed.warm step then tally_sum sum ran.tally else sum) more last (go_on seed sheet step sum ran more last way).way

-- a rule for the lanes of a road suits the road
rule_suits : (change : Option CheckedProgram) (lanes n : ℕ) → (IsSome change → lanes ≡ 2) → n ≡ lanes → not (is_some change && (n == 1)) ≡ true
rule_suits None lanes n two same = refl
rule_suits (Some change) lanes n two same = rw (same ∙ two refl) refl

-- each rule of the sheet suits the last road
pub way_suits : (seed : Seed) (sheet : Sheet) (step at : ℕ) (sum : StepTally) (ran : List ExecutedStep) (last : Cells) (rule : Programs) → WayOn seed sheet step sum ran last
    → in_force sheet at ≡ Some rule → suits rule last ≡ true
way_suits seed sheet step at sum ran last rule way under =
    let lanes = length seed.road.lanes in
    rule_suits rule.change lanes (length last.lanes) (force_all (IsRuleFor lanes) sheet at rule way.run.suits.rules under).two_lanes (way_lanes seed sheet step sum ran last way)

-- a lease of a job's road, from the job's step on
pub way_of_lease : (job : JobState) (lease : LeaseState) (road : Cells) (sum : StepTally) → IsReachedByRun (progress_of job.seed job.sheet job.done road sum) → IsLease lease → RunsRoadOfJob job lease → lease.base.step ≡ job.done
    → WayOn (run_seed job.seed) job.sheet job.done sum lease.applied lease.road
way_of_lease job lease road sum run is own base =
    let same : lease.base.road ≡ road = road_at_is_one (run_seed job.seed) job.sheet job.done lease.base.road road own.base (sum, run.comes) in
    let K : Key → Type 0 = λ k. LeadsTo k.0 lease.road_number lease.base.step lease.base.road lease.applied lease.road in
    let N : ℕ → Type 0 = λ n. LeadsTo job.seed.key.0 n lease.base.step lease.base.road lease.applied lease.road in
    let S : ℕ → Type 0 = λ s. LeadsTo job.seed.key.0 job.seed.number s lease.base.road lease.applied lease.road in
    let R : Cells → Type 0 = λ r. LeadsTo job.seed.key.0 job.seed.number job.done r lease.applied lease.road in
    record {
      road = road;
      run = run;
      leads = subst R same (subst S base (subst N own.number (subst K own.key is.leads)));
      rules = subst (λ s. RanUnderSheet job.sheet s lease.applied) base own.rules;
    }

-- the same for a job that is seen through its model
pub way_begins : (state now : JobState) (lease : LeaseState) (road : Cells) (sum : StepTally) → state ≡ now → IsReachedByRun (progress_of state.seed state.sheet state.done road sum) → IsLease lease
    → RunsRoadOfJob now lease → lease.base.step ≡ now.done → WayOn (run_seed now.seed) now.sheet state.done sum lease.applied lease.road
way_begins state now lease road sum view run is own base =
    let P : JobState → Type 0 = λ s. RunsRoadOfJob s lease → lease.base.step ≡ s.done → WayOn (run_seed s.seed) s.sheet state.done sum lease.applied lease.road in
    subst P view (λ mine at. way_of_lease state lease road sum run is mine at) own base

-- one step of a list of them
pub go_on_at : (seed : Seed) (sheet : Sheet) (step : ℕ) (sum : StepTally) (xs : List ExecutedStep) (i : ℕ) (ran : ExecutedStep) (last : Cells) → i < length xs → ran ≡ get_or xs i ran
    → WayOn seed sheet step sum (drop i xs) last → GoneOn seed sheet step sum ran (drop (i + 1) xs) last
go_on_at seed sheet step sum xs i ran last h e way =
    go_on seed sheet step sum ran (drop (i + 1) xs) last
    (subst (λ (v : List ExecutedStep). WayOn seed sheet step sum v last) (drop_more xs i ran h ∙ ap (λ r. r ∷ drop (i + 1) xs) (sym e)) way)

-- a lease that runs one more step stays a lease
lease_goes_on : (lease : LeaseState) (rule : Programs) (tally : StepTally) (next : Cells) (dice : Dice) → dice.key ≡ lease.key.0 → dice.road ≡ lease.road_number → dice.step ≡ lease.step
    → IsNext rule dice lease.road next tally → IsLease lease → IsLease (with_executed_step lease rule tally next)
lease_goes_on lease rule tally next dice a b d is on =
    let ran : ExecutedStep = record { rule = rule; tally = tally } in
    let more = length-append lease.applied (ran ∷ []) in
    let at = on.steps_run in
    let here : IsNext rule (dice_of lease.key.0 lease.road_number lease.step) lease.road next tally = subst (λ (one : Dice). IsNext rule one lease.road next tally) (same_dice dice lease.key.0 lease.road_number lease.step a b d) is in
    record {
      steps_run = omega arith;
      leads = leads_push lease.key.0 lease.road_number lease.base.step lease.base.road lease.road next lease.applied ran on.leads
          (subst (λ s. IsNext rule (dice_of lease.key.0 lease.road_number s) lease.road next tally) at here);
    }

-- the step that a lease has run under a copy of a rule
pub has_stepped : (lease old : LeaseState) (under rule : Programs) (tally : StepTally) (next : Cells) (dice : Dice) (applied : List ExecutedStep) → lease ≡ old → rule ≡ under → dice.key ≡ lease.key.0 → dice.road ≡ lease.road_number → dice.step ≡ lease.step
    → IsNext rule dice lease.road next tally → applied ≡ lease.applied ++ record { rule = rule; tally = tally } ∷ []
    → (sum : StepTally) × IsNext under (dice_of old.key.0 old.road_number old.step) old.road next sum
    × (record lease { step = lease.step + 1; road = next; applied = applied } ≡ with_executed_step old under sum next)
has_stepped lease old under rule tally next dice applied view copied a b d is pushed =
    let here : IsNext rule (dice_of lease.key.0 lease.road_number lease.step) lease.road next tally = subst (λ (one : Dice). IsNext rule one lease.road next tally) (same_dice dice lease.key.0 lease.road_number lease.step a b d) is in
    let P : LeaseState → Type 0 = λ l. (sum : StepTally) × IsNext under (dice_of l.key.0 l.road_number l.step) l.road next sum
    × (record lease { step = lease.step + 1; road = next; applied = applied } ≡ with_executed_step l under sum next) in
    subst P view (
      tally,
      subst (λ (r : Programs). IsNext r (dice_of lease.key.0 lease.road_number lease.step) lease.road next tally) copied here,
      ap (λ (xs : List ExecutedStep). (record lease { step = lease.step + 1; road = next; applied = xs }))
          (pushed ∙ ap (λ (r : Programs). lease.applied ++ record { rule = r; tally = tally } ∷ []) copied),
    )

-- a lease of which neither the road nor the steps that it has run change, as seen from inside
pub still : (lease now : LeaseState) (road : Cells) (applied : List ExecutedStep) → road ≡ lease.road → applied ≡ lease.applied → lease ≡ now → record lease { road = road; applied = applied } ≡ now
still lease now road applied r a view =
    ap (λ (c : Cells). (record lease { road = c; applied = applied })) r ∙ ap (λ (xs : List ExecutedStep). (record lease { applied = xs })) a ∙ view

pub still_lease : (lease : LeaseState) (road : Cells) (applied : List ExecutedStep) → road ≡ lease.road → applied ≡ lease.applied → IsLease lease → IsLease (record lease { road = road; applied = applied })
still_lease lease road applied r a is =
    subst (λ (l : LeaseState). IsLease l) (sym (still lease lease road applied r a refl)) is

-- a lease that runs one more step stays a lease, with the steps that it has run
pub lease_grows : (lease : LeaseState) (rule : Programs) (tally : StepTally) (next : Cells) (dice : Dice) (applied : List ExecutedStep) → dice.key ≡ lease.key.0 → dice.road ≡ lease.road_number → dice.step ≡ lease.step
    → IsNext rule dice lease.road next tally → applied ≡ lease.applied ++ record { rule = rule; tally = tally } ∷ [] → IsLease lease
    → IsLease (record lease { step = lease.step + 1; road = next; applied = applied })
lease_grows lease rule tally next dice applied a b d is pushed on =
    subst (λ (xs : List ExecutedStep). IsLease (record lease { step = lease.step + 1; road = next; applied = xs })) (sym pushed)
    (lease_goes_on lease rule tally next dice a b d is on)
