use Rattle.std.proofs.Common.{◌∷◌, []}
use Rattle.trlab_words.proofs.block.with_cars.Goals as goal

pub returns-clause-states : goal.returns-clause-states
returns-clause-states c j h =
    let p = c.splat.ensures j h in
    let q = c.splat-2.ensures j h in
    let r = c.splat_with_cars.ensures.words j h in
    let s = c.splat-3.ensures j h in
    λ i. (p i).0 ∷ (q i).0 ∷ (r i).0 ∷ (s i).0
    ∷ (p i).1 ∷ (q i).1 ∷ (r i).1 ∷ (s i).1
    ∷ (p i).2 ∷ (q i).2 ∷ (r i).2 ∷ (s i).2
    ∷ (p i).3 ∷ (q i).3 ∷ (r i).3 ∷ (s i).3 ∷ []
