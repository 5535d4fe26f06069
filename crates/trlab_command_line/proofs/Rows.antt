-- Rows of matches by their ids, lists of kinds of errors, and searching a list.
use Rattle.std.proofs.Common.{◌≡◌, ◌||◌, Bool, cond, true, false, refl, ap, subst, arith, List, [], ◌∷◌, ◌++◌}
use Rattle.std.proofs.{Common.{Some, find, unwrap_or, bytes_eq, ne_eqb}, lemmas.Slice.Eq.bytes_eq-Decides}
use Rattle.clap.specs.{Kinds.{Kinds, or_else}, Walk.{Row, Text, is_empty, at_row, has_row}}

-- the kinds of the first step that fails: an empty list if no step fails
pub none_fails : (a b : Kinds) → or_else a b ≡ [] → (a ≡ []) × (b ≡ [])
none_fails [] b e = (refl, e)
none_fails (k ∷ ks) b e = cc

-- a list with a first element is not empty
pub not_empty : {X : Type 0} (x : X) (xs : List X) → is_empty (x ∷ xs) ≡ false
not_empty x xs = ne_eqb _ _ (λ h. omega arith)

-- the two elements of a list, of which one is found
pub some_same : {X : Type 0} (x y : X) → Some x ≡ Some y → x ≡ y
some_same x y e = ap (λ o. unwrap_or o x) e

-- a property of each of some items, one after the other
abbrev pub Each : {X : Type 0} → (X → Type 0) → List X → Type 0
Each P [] = Unit {0}
Each P (x ∷ xs) = P x × Each P xs

-- so an item that is found among them has the property
pub found_holds : {X : Type 0} (P : X → Type 0) (test : X → Bool) (xs : List X) → Each P xs → (x : X) → find test xs ≡ Some x → P x
found_holds P test [] each x e = cc
found_holds P test (y ∷ ys) each x e = go (test y) e (found_holds P test ys each.1 x)
  where
    go : (b : Bool) → cond b (Some y) (find test ys) ≡ Some x → (find test ys ≡ Some x → P x) → P x
    go true f later = subst P (some_same y x f) each.0
    go false f later = later f

-- if no row has the id, the new rows for it come at the end
pub at_end : (id : Text) (change : Row → List Row) (missing rows : List Row) → has_row id rows ≡ false → at_row id change missing rows ≡ rows ++ missing
at_end id change missing [] e = refl
at_end id change missing (r ∷ rs) e = go (bytes_eq r.id id) e (at_end id change missing rs)
  where
    go : (b : Bool) → (b || has_row id rs) ≡ false → (has_row id rs ≡ false → at_row id change missing rs ≡ rs ++ missing)
        → cond b (change r ++ rs) (r ∷ at_row id change missing rs) ≡ (r ∷ rs) ++ missing
    go true h later = cc
    go false h later = ap (λ rest. r ∷ rest) (later h)

pub has_more : (id : Text) (rows more : List Row) → has_row id rows ≡ true → has_row id (rows ++ more) ≡ true
has_more id [] more e = cc
has_more id (r ∷ rs) more e = go (bytes_eq r.id id) e (has_more id rs more)
  where
    go : (b : Bool) → (b || has_row id rs) ≡ true → (has_row id rs ≡ true → has_row id (rs ++ more) ≡ true) → (b || has_row id (rs ++ more)) ≡ true
    go true h later = refl
    go false h later = later h

pub has_last : (id : Text) (rows : List Row) (r : Row) → bytes_eq r.id id ≡ true → has_row id (rows ++ r ∷ []) ≡ true
has_last id [] r is = rw is refl
has_last id (x ∷ xs) r is = go (bytes_eq x.id id) (has_last id xs r is)
  where
    go : (b : Bool) → has_row id (xs ++ r ∷ []) ≡ true → (b || has_row id (xs ++ r ∷ [])) ≡ true
    go true h = refl
    go false h = h

pub same_id : (id : Text) → bytes_eq id id ≡ true
same_id id = (bytes_eq-Decides id id).1 refl
