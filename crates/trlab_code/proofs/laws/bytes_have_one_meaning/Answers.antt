use Rattle.trlab_code.proofs.{Readable.something, Said.one_thing}
use Rattle.trlab_code.proofs.laws.bytes_have_one_meaning.Goals as goal

pub returns : goal.returns
returns c = record { some_meaning = something; one_meaning = one_thing }
