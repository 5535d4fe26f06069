-- A read of a job shows the road of one worker.
use Rattle.std.proofs.Common.{ℕ}
use Rattle.trlab_step.proofs.{Driving.runs_are_driven, RunLaws.{road_is_unique, run_comes_to_road}}
use Rattle.trlab_sequential_book.{specs.Histories.ReadsAreDriven, proofs.Submitting.snapshots_are_of_submits}

pub reads_are_driven : ReadsAreDriven
reads_are_driven history book number seen replays is underway =
    let found = snapshots_are_of_submits history book number seen replays is in
    let at = λ (step : ℕ). run_comes_to_road seen.seed seen.sheet step underway.legal underway.suits in
    let last = at seen.step in
    record {
      job = found.0;
      submitted = found.1;
      snapshot = found.2;
      roads = λ (step : ℕ). (at step).0;
      driven = runs_are_driven seen.seed seen.sheet seen.step (λ step. (at step).0) underway.legal underway.suits (λ step _. ((at step).1, (at step).2));
      road = (road_is_unique seen.seed seen.sheet seen.step last.0 seen.road last.1 seen.sum last.2 underway.comes).0;
    }
