use Rattle.trlab_traffic.proofs.Stationary.{step_weights_add_up, weights_are_stationary}
use Rattle.trlab_traffic.proofs.RingWords.{draws_are_counted, step_weights_count_words}
use Rattle.trlab_traffic.proofs.RingWords.{weights_are_stationary_over_words}
use Rattle.trlab_traffic.proofs.Uniqueness.{stationary_weights_are_unique}
use Rattle.trlab_traffic.proofs.laws.nasch_has_stationary_state.Goals as goal

pub returns : goal.returns
returns c = record { words = weights_are_stationary_over_words; weights = weights_are_stationary; unique = stationary_weights_are_unique; chances = step_weights_add_up; counts = step_weights_count_words; counted = draws_are_counted }
