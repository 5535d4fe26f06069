use Rattle.trlab_campaign.proofs.Headlines as lemmas
use Rattle.trlab_campaign.proofs.laws.job_texts_are_driven.Goals as goal

pub returns : goal.returns
returns c = lemmas.job_texts_are_driven
