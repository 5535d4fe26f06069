use Rattle.trlab_campaign.proofs.Headlines as lemmas
use Rattle.trlab_campaign.proofs.laws.series_texts_are_driven.Goals as goal

pub returns : goal.returns
returns c = lemmas.series_texts_are_driven
