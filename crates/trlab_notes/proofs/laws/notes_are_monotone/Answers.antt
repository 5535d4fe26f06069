use Rattle.trlab_notes.proofs.Monotone.{fall_up, jump_up, clear_up, passes, All_variables, all_closed, on_all}
use Rattle.trlab_notes.proofs.{Monotone.{all_on, both_all, reaches_all}, Steps.clear}
use Rattle.trlab_notes.proofs.laws.notes_are_monotone.Goals as goal

pub returns-clause-clear : goal.returns-clause-clear
returns-clause-clear c = λ kind own len pc m n i f h. passes All_variables all_closed kind own len pc n i (clear_up All_variables all_closed m n (on_all m n f) kind own len pc i (clear kind own len pc m i h))

pub returns-clause-falls : goal.returns-clause-falls
returns-clause-falls c = λ kind own len pc m n i f h. let k = clear kind own len pc m i h in both_all _ _ (fall_up All_variables all_closed m n (on_all m n f) i (reaches_all i) k.set k.kinds)

pub returns-clause-jumps : goal.returns-clause-jumps
returns-clause-jumps c = λ m n i f. all_on _ _ (jump_up All_variables all_closed m n (on_all m n f) i)
