use Rattle.std.proofs.Common.{◌≡◌, ℕ, List, [], ◌∷◌, slice_index, refl, sym, ap, ◌∙◌}
use Rattle.rand_chacha.specs.Lanes.{lane}
use Rattle.trlab_words.{specs.States.state_in, proofs.LaneLemmas.slice_index-lane}
use Rattle.trlab_words.proofs.block.word_of.Goals as goal

pub returns : goal.returns
returns c j h =
    let x = c.args.x in
    let words : List (List ℕ) =
    x.first.a ∷ x.second.a ∷ x.third.a ∷ x.fourth.a
    ∷ x.first.b ∷ x.second.b ∷ x.third.b ∷ x.fourth.b
    ∷ x.first.c ∷ x.second.c ∷ x.third.c ∷ x.fourth.c
    ∷ c.words_of.result ∷ c.words_of-2.result ∷ c.words_of-3.result ∷ c.words_of-4.result ∷ [] in
    let same : lane j words ≡ state_in j x
    = rw (c.words_of.ensures j h, c.words_of-2.ensures j h, c.words_of-3.ensures j h, c.words_of-4.ensures j h) refl in
    sym (slice_index-lane words j c.args.k c.requires) ∙ ap (λ s. slice_index s c.args.k) same
