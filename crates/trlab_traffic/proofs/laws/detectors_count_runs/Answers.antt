use Rattle.trlab_traffic.proofs.DetectingRuns.{count_exists, detector_measures_flow, detectors_agree}
use Rattle.trlab_traffic.proofs.DetectingRuns.{detectors_agree_by_cars, detectors_count_run}
use Rattle.trlab_traffic.proofs.DetectingRuns.{run_is_continuous}
use Rattle.trlab_traffic.proofs.laws.detectors_count_runs.Goals as goal

pub returns : goal.returns
returns c = record { exists = count_exists; run = run_is_continuous; agree = detectors_agree; by_cars = detectors_agree_by_cars; distance = detectors_count_run; flow = detector_measures_flow }
