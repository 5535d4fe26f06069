use Rattle.std.proofs.{Common.{refl, ◌∙◌, ◌≡◌, arith}, lemmas.Simd.get_or-replicate}
use Rattle.trlab_words.proofs.FirstRounds.{slice_index-with_car}
use Rattle.trlab_words.proofs.block.initial_word.Goals.{then-k-eq14, else-k-eq14}
use Rattle.trlab_words.proofs.block.initial_word.Goals as goal

pub returns : goal.returns
returns c j h =
    elim c.if-k-eq14.branch [
      | then-k-eq14 w ↦ let is : c.args.k ≡ 14 = omega (arith, w.if-k-eq14) in rw (w.result-is, is) refl
      | else-k-eq14 w ↦ rw w.result-is (get_or-replicate 8 j _ 0 h ∙ slice_index-with_car c.args.initial.now _ c.args.k c.requires (omega (arith, w.if-k-eq14)))
    ]
