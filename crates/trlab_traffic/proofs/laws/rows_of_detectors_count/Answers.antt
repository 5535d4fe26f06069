use Rattle.trlab_traffic.proofs.Rows.{row_measures_flow, rows_agree, run_is_continuous_by_rows}
use Rattle.trlab_traffic.proofs.Rows.{step_is_continuous_by_rows}
use Rattle.trlab_traffic.proofs.laws.rows_of_detectors_count.Goals as goal

pub returns : goal.returns
returns c = record { step = step_is_continuous_by_rows; run = run_is_continuous_by_rows; agree = rows_agree; flow = row_measures_flow }
