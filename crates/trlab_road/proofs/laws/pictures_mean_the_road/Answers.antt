use Rattle.trlab_road.proofs.{PictureLaws.pictures_good, PictureFaults.same_again}
use Rattle.trlab_road.proofs.laws.pictures_mean_the_road.Goals as goal

pub returns : goal.returns
returns c = record { valid = pictures_good; same = same_again }
