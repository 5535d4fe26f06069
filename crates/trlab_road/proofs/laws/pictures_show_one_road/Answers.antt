use Rattle.trlab_road.proofs.PictureLaws.{one_shown, shown_legal, one_fault, no_fault}
use Rattle.trlab_road.proofs.laws.pictures_show_one_road.Goals as goal

pub returns : goal.returns
returns c = record { one_road = one_shown; legal = shown_legal; one_fault = one_fault; no_fault = no_fault }
