-- Both steps of a lock keep its rule.
use Rattle.std.proofs.Common.{◌≡◌, ℕ, List, ◌∷◌, get_or, sym, refl, ◌∙◌, subst, arith, Option, Some}
use Rattle.std.proofs.Common.{length-set, get_or-set_same}
use mathlib.Core.{Logic.dite, Option.some}
use native.Mathlib.Decide.{ℕ_discrete}
use Rattle.atomic_table.{specs.Table.{Me, keeps, takes, gives, Allows, Arrives}, proofs.Lists.set_here}
use Rattle.trlab_segments.specs.KeyedLocks.{SatisfiesLockInvariant, HasTakenValue}

module _ {T K : Type 0} (Fits : T → Type 0) where
  -- a thread that has the value puts one back that fits
  pub releases : (id : ℕ) (m : Me (Option T) K) (v : K) (value : T) (more : List (ℕ × Option T)) → m ≡ (v, (0, Some value) ∷ more) → Fits value
      → Allows (SatisfiesLockInvariant Fits) 1 id m 0 (λ _. 0) (λ _ _. Unit {0})
  releases id m v value more e ok = subst (λ (x : Me (Option T) K). Allows (SatisfiesLockInvariant Fits) 1 id x 0 (λ _. 0) (λ _ _. Unit {0})) (sym e)
      (λ s g wide me _. (v, gives, tt, (length-set s.words 0 0 ∙ g.0, λ _. (value, set_here s.homes 0 (some (Some value)) (omega arith), ok)), tt))

  -- a thread that finds 0 has a value that fits
  pub seizes : (n : ℕ) (v : K) → Arrives (SatisfiesLockInvariant Fits) n 0 (λ _. 1) (λ r m. r ≡ 0 → HasTakenValue {K = K} Fits m)
  seizes n v s g wide _ =
      let long = g.0 in
      let one = get_or-set_same s.words 0 1 0 (omega arith) in
      dite (ℕ_discrete (get_or s.words 0 0) 0)
      (λ free. let t = g.1 free in (v, takes 0 (Some t.0), t.1, (length-set s.words 0 1 ∙ long, λ e. absurd (omega arith)), λ _. (t.0, refl, t.2)))
      (λ held. (v, keeps, tt, (length-set s.words 0 1 ∙ long, λ e. absurd (omega arith)), λ e. absurd (held e)))
