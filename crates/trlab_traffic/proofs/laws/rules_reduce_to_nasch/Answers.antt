use Rattle.trlab_traffic.proofs.Reductions.{rickert_without_change, runs_alike, vdr_of_one_chance}
use Rattle.trlab_traffic.proofs.laws.rules_reduce_to_nasch.Goals as goal

pub returns : goal.returns
returns c = record { vdr = vdr_of_one_chance; rickert = rickert_without_change; runs = runs_alike }
