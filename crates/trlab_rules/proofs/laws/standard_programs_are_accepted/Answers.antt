use Rattle.trlab_rules.proofs.Accepted.{nasch_accepted, vdr_accepted, rickert_accepted}
use Rattle.trlab_rules.proofs.laws.standard_programs_are_accepted.Goals as goal

pub returns-clause-nasch : goal.returns-clause-nasch
returns-clause-nasch c = nasch_accepted

pub returns-clause-vdr : goal.returns-clause-vdr
returns-clause-vdr c = vdr_accepted

pub returns-clause-rickert : goal.returns-clause-rickert
returns-clause-rickert c = rickert_accepted
