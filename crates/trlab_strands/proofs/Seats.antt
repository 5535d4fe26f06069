-- The seats of a table: sums over the views at all seats, and facts of each, if one view changes or a seat
-- is added.
use Rattle.std.proofs.Common.{◌≡◌, ℕ, zero, suc, ◌+◌, ◌<◌, ◌≢◌, eqb, cond, List, [], ◌∷◌, ◌++◌, length}
use Rattle.std.proofs.Common.{get_or, set, sym, subst, ⊎_elim, refl, arith, sum_by, count_by}
use Rattle.std.proofs.lemmas.List.Sums.{sum_by-set, sum_by-cons, sum_by_push, sum_by-append}
use mathlib.Core.Option.{some, some-injective, some-ne-none}
use lib.ListN.{get_elem?}
use Rattle.atomic_table.proofs.Lists.{at_set, at_snoc}

module _ {V : Type 0} where
  at_get : (l : List V) (i : ℕ) (a d : V) → get_elem? l i ≡ some a → (i < length l) × (get_or l i d ≡ a)
  at_get [] i a d e = absurd (some-ne-none a (sym e))
  at_get (x ∷ xs) zero a d e = (omega arith, some-injective x a e)
  at_get (x ∷ xs) (suc i) a d e = let r = at_get xs i a d e in let p = r.0 in (omega arith, r.1)

  -- the sum after one view has changed
  pub total_set : (f : V → ℕ) (views : List V) (i : ℕ) (v w : V) → get_elem? views i ≡ some v → sum_by f (set views i w) + f v ≡ sum_by f views + f w
  total_set f views i v w at = let g = at_get views i v v at in subst (λ (u : V). sum_by f (set views i w) + f u ≡ sum_by f views + f w) g.1 (sum_by-set f views i w v g.0)

  -- a fact of each view, after one view has changed
  pub each_set : (P : V → Type 0) (views : List V) (id : ℕ) (w : V) → P w
      → ((j : ℕ) (u : V) → j ≢ id → get_elem? views j ≡ some u → P u) → (j : ℕ) (u : V) → get_elem? (set views id w) j ≡ some u → P u
  each_set P views id w mine others j u e = ⊎_elim
      (λ (t : (j ≡ id) × (w ≡ u)). subst P t.1 mine)
      (λ (t : (j ≢ id) × (get_elem? views j ≡ some u)). others j u t.0 t.1)
      (at_set views id j w u e)

  -- a fact of each view, with a new seat
  pub each_snoc : (P : V → Type 0) (views : List V) (w : V) → P w
      → ((j : ℕ) (u : V) → get_elem? views j ≡ some u → P u) → (j : ℕ) (u : V) → get_elem? (views ++ w ∷ []) j ≡ some u → P u
  each_snoc P views w mine others j u e = ⊎_elim (others j u) (λ (same : w ≡ u). subst P same mine) (at_snoc views w u j e)

  all_spent : (f g : V → ℕ) (views : List V) → ((j : ℕ) (u : V) → get_elem? views j ≡ some u → f u ≡ 0 → g u ≡ 0) → sum_by f views ≡ 0 → sum_by g views ≡ 0
  all_spent f g [] idle none_left = omega arith
  all_spent f g (v ∷ vs) idle none_left =
      let a = sum_by-cons f v vs in
      let h : g v ≡ 0 = idle 0 v refl (omega arith) in
      let t = all_spent f g vs (λ j u e. idle (suc j) u e) (omega arith) in
      omega (arith, sum_by-cons g v vs)

  -- if one view has the whole sum of f, and g is 0 wherever f is, it has the whole sum of g
  pub alone : (f g : V → ℕ) (spent : V) → f spent ≡ 0 → g spent ≡ 0 → (views : List V) (id : ℕ) (v : V) → get_elem? views id ≡ some v
      → ((j : ℕ) (u : V) → get_elem? views j ≡ some u → f u ≡ 0 → g u ≡ 0) → sum_by f views ≡ f v → sum_by g views ≡ g v
  alone f g spent no_f no_g views id v at idle every =
      let t = total_set f views id v spent at in
      let others = all_spent f g (set views id spent)
      (each_set (λ u. f u ≡ 0 → g u ≡ 0) views id spent (λ _. no_g) (λ j u _ e. idle j u e)) (omega arith) in
      let q = total_set g views id v spent at in
      omega arith

module _ {A : Type 0} (number : A → ℕ) where
  -- how often a number occurs, with one more element
  pub times_push : (k : ℕ) (xs : List A) (x : A) → count_by (λ y. eqb (number y) k) (xs ++ x ∷ []) ≡ count_by (λ y. eqb (number y) k) xs + cond (eqb (number x) k) 1 0
  times_push k xs x = sum_by_push (λ (y : A). cond (eqb (number y) k) 1 0) xs x

  -- how often it occurs in two lists
  pub times_append : (k : ℕ) (xs ys : List A) → count_by (λ y. eqb (number y) k) (xs ++ ys) ≡ count_by (λ y. eqb (number y) k) xs + count_by (λ y. eqb (number y) k) ys
  times_append k xs ys = sum_by-append (λ (y : A). cond (eqb (number y) k) 1 0) xs ys
