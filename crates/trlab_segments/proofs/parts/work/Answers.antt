use Rattle.std.proofs.Common.{◌≡◌, ℕ, List, ◌++◌, ◌∷◌, [], sym, ◌∙◌, arith}
use Rattle.trlab_segments.proofs.parts.work.Goals as goal

-- two equal lists stay equal if the same number is added to both
one_more : {xs ys before after : List ℕ} (n : ℕ) → ys ≡ xs ++ n ∷ [] → xs ≡ before → after ≡ before ++ n ∷ [] → ys ≡ after
one_more n longer same drawn = cc

pub loop-number-preserved : goal.loop-number-preserved
loop-number-preserved g c =
    let before = c.loop-number.invariant in
    let drawn = c.in-Some.ensures.some in record {
      from = c.draw.ensures.from;
      passes = c.draw.ensures.passes ∙ before.passes;
      tickets = one_more c.in-Some.number c.in_ok-add_part.ensures.numbers before.tickets drawn.2;
      right = c.in_ok-add_part.ensures.right before.right;
    }

pub loop-number-smaller : goal.loop-number-smaller
loop-number-smaller g c = let drawn = c.in-Some.ensures.some in omega (arith, drawn.0, drawn.1, drawn.3)

pub returns : goal.returns
returns g c =
    let done = c.loop-number.invariant in
    let none = rw c.in_default.is at c.draw.ensures.none in record {
      from = c.draw.ensures.from;
      passes = c.draw.ensures.passes ∙ done.passes;
      parts = record { tickets = done.tickets ∙ sym none.0; right = done.right; ended = none.1 };
    }
