use Rattle.trlab_traffic.proofs.Fastest.{gap_program_goes_at_once, nobody_beats_gap}
use Rattle.trlab_traffic.proofs.laws.nobody_beats_gap.Goals as goal

pub returns : goal.returns
returns c = record { run = nobody_beats_gap; program = gap_program_goes_at_once }
