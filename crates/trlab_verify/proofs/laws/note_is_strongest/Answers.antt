use Rattle.trlab_verify.proofs.Strongest.{no_stronger, strongest}
use Rattle.trlab_verify.proofs.laws.note_is_strongest.Goals as goal

pub returns-clause-each : goal.returns-clause-each
returns-clause-each c = λ kind program pc note sent. no_stronger kind program.instrs pc note sent

pub returns-clause-most : goal.returns-clause-most
returns-clause-most c = λ kind program pc note other. strongest kind program.instrs pc note other
