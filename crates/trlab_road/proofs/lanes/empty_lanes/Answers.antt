use Rattle.std.proofs.Common.{◌≡◌, ℕ, zero, suc, List, [], ◌∷◌, ◌++◌, Vec, Global, refl, arith}
use Rattle.std.proofs.lemmas.List.{length_push}
use Rattle.trlab_road.specs.Stored.{LaneCar, list_at}
use Rattle.trlab_road.proofs.lanes.empty_lanes.Goals as goal

-- one more lane with no car
all_empty : (lanes : List (Vec LaneCar Global)) (lane : Vec LaneCar Global) → lane.items ≡ []
    → ((k : ℕ) → list_at lanes k ≡ []) → (k : ℕ) → list_at (lanes ++ lane ∷ []) k ≡ []
all_empty [] lane e before zero = e
all_empty [] lane e before (suc k) = refl
all_empty (first ∷ lanes) lane e before zero = before zero
all_empty (first ∷ lanes) lane e before (suc k) = all_empty lanes lane e (λ j. before (suc j)) k

pub loop-init : goal.loop-init
loop-init c = rw c.new-lanes.ensures.items (record { same_count = refl; empty = λ k. refl })

pub loop-preserved : goal.loop-preserved
loop-preserved c = rw c.in_ok-push.ensures.items (record {
  same_count = let size = length_push c.loop.lanes.items c.new.result in let before = c.loop.invariant.same_count in omega (arith, size, before);
  empty = all_empty c.loop.lanes.items c.new.result c.new.ensures.items c.loop.invariant.empty;
})

pub returns-clause-same_count : goal.returns-clause-same_count
returns-clause-same_count c = let all = c.loop-test.false in let low = c.loop.auto.counter-end in let count = c.loop.invariant.same_count in omega (arith, all, low, count)

pub returns-clause-empty : goal.returns-clause-empty
returns-clause-empty c = c.loop.invariant.empty
