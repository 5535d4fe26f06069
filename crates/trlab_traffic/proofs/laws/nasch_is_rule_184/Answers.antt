use Rattle.trlab_traffic.proofs.Wolfram.{empty_cells_follow, empty_cells_go_back, nasch_is_rule_184}
use Rattle.trlab_traffic.proofs.laws.nasch_is_rule_184.Goals as goal

pub returns : goal.returns
returns c = record { rule = nasch_is_rule_184; holes = empty_cells_go_back; lanes = empty_cells_follow }
