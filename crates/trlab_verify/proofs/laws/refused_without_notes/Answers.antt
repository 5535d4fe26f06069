use Rattle.trlab_verify.proofs.Refusals.{called, own}
use Rattle.trlab_verify.proofs.laws.refused_without_notes.Goals as goal

pub returns-clause-called : goal.returns-clause-called
returns-clause-called c = called

pub returns-clause-own : goal.returns-clause-own
returns-clause-own c = own
