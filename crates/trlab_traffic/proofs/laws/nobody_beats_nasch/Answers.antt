use Rattle.trlab_traffic.proofs.Fastest.{nasch_speeds_up_by_one, nobody_beats_nasch, vdr_speeds_up_by_one}
use Rattle.trlab_traffic.proofs.laws.nobody_beats_nasch.Goals as goal

pub returns : goal.returns
returns c = record { run = nobody_beats_nasch; nasch = nasch_speeds_up_by_one; vdr = vdr_speeds_up_by_one }
