-- A drawer with the tickets of two has the parts of both.
use Rattle.std.proofs.Common.{◌≡◌, Bool, true, false, List, [], ◌++◌, ◌||◌, Option, Some, None, IfSome}
use Rattle.std.proofs.Common.{MatchOption, Result, Ok, Err, IfOk, IsOkAnd, Vec, refl, All, map, ap, sym, ◌∙◌}
use Rattle.std.proofs.{Common.subst, lemmas.List.{map-append, Elements.All-append}}
use Rattle.trlab_segments.specs.Answered.{HasParts, ticket_of}
use Rattle.trlab_segments.specs.Drawers.{IsDrawerOf, IsJoined, HasDrawnNone, Joins, is_ended, tickets_of}
use Rattle.trlab_segments.specs.declared.{tickets.{Drawer.Drawer, Tickets.Tickets}, parts.Part.Part}

or_true : (x : Bool) → (x || true) ≡ true
or_true true = refl
or_true false = refl

module _ {A : Type 0} (Fits : Part A → Type 0) (t : Tickets) where
  -- the parts of two drawers are those of the joined drawer
  both_parts : (d e f : Drawer) (some more all : List (Part A)) → HasParts Fits d some → HasParts Fits e more
      → all ≡ some ++ more → Joins t d e f → HasParts Fits f all
  both_parts d e f some more all first second items joins = record {
    tickets = ap (map ticket_of) items ∙ (map-append ticket_of some more
        ∙ (ap (λ xs. xs ++ map ticket_of more) first.tickets ∙ ap (λ xs. tickets_of d ++ xs) second.tickets ∙ sym joins.tickets));
    right = subst (All Fits) (sym items) (All-append Fits some more first.right second.right);
    ended = joins.ended ∙ ap (λ x. x || is_ended e) first.ended;
  }

  -- the same for results of workers, if both succeeded
  pub told_parts : {B E : Type 0} (d e f : Drawer) (some more all : Result (Vec (Part A) B) E)
      → IfOk some (λ parts. HasParts Fits d parts.items) → IfOk more (λ parts. HasParts Fits e parts.items)
      → IfOk all (λ v. IsOkAnd some (λ a. IsOkAnd more (λ b. v.items ≡ a.items ++ b.items)))
      → Joins t d e f → IfOk all (λ parts. HasParts Fits f parts.items)
  told_parts d e f some more (Err x) first second items joins = tt
  told_parts d e f (Err x) more (Ok v) first second items joins = absurd items
  told_parts d e f (Ok a) (Err x) (Ok v) first second items joins = absurd items
  told_parts d e f (Ok a) (Ok b) (Ok v) first second items joins =
      both_parts d e f a.items b.items v.items first second items joins

  -- a worker's parts, if those before it are none
  first_told : {B E : Type 0} (e : Drawer) (some more all : Result (Vec (Part A) B) E)
      → IfOk some (λ parts. parts.items ≡ []) → IfOk more (λ parts. HasParts Fits e parts.items)
      → IfOk all (λ v. IsOkAnd some (λ a. IsOkAnd more (λ b. v.items ≡ a.items ++ b.items)))
      → IfOk all (λ parts. HasParts Fits e parts.items)
  first_told e some more (Err x) none done items = tt
  first_told e (Err x) more (Ok v) none done items = absurd items
  first_told e (Ok a) (Err x) (Ok v) none done items = absurd items
  first_told e (Ok a) (Ok b) (Ok v) none done items =
      subst (HasParts Fits e) (sym (items ∙ ap (λ xs. xs ++ b.items) none)) done

  -- earlier deposits, and the parts of a worker
  pub all_told : {B E : Type 0} (before : Option Drawer) (e f : Drawer) (some more all : Result (Vec (Part A) B) E)
      → MatchOption before (IfOk some (λ parts. parts.items ≡ [])) (λ d. IsDrawerOf t d × IfOk some (λ parts. HasParts Fits d parts.items))
      → IsDrawerOf t e × IfOk more (λ parts. HasParts Fits e parts.items)
      → IfOk all (λ v. IsOkAnd some (λ a. IsOkAnd more (λ b. v.items ≡ a.items ++ b.items)))
      → IsJoined t before e f → IsDrawerOf t f × IfOk all (λ parts. HasParts Fits f parts.items)
  all_told None e f some more all none done items same =
      subst (λ d. IsDrawerOf t d × IfOk all (λ parts. HasParts Fits d parts.items)) (sym same)
      (done.0, first_told e some more all none done.1 items)
  all_told (Some d) e f some more all deposited done items joins =
      (joins.from, told_parts d e f some more all deposited.1 done.1 items joins)

  -- a drawer that drew nothing changes no parts
  pub with_reserve : {B E : Type 0} (reserve : Option Drawer) (e f : Drawer) (told : Result (Vec (Part A) B) E) → IfSome reserve (HasDrawnNone t)
      → IsDrawerOf t e × IfOk told (λ parts. HasParts Fits e parts.items) → IsJoined t reserve e f
      → IsDrawerOf t f × IfOk told (λ parts. HasParts Fits f parts.items)
  with_reserve None e f told new done same =
      subst (λ d. IsDrawerOf t d × IfOk told (λ parts. HasParts Fits d parts.items)) (sym same) done
  with_reserve (Some d) e f (Err x) new done joins = (joins.from, tt)
  with_reserve (Some d) e f (Ok parts) new done joins = (
    joins.from,
    record {
      tickets = done.1.tickets ∙ sym (joins.tickets ∙ ap (λ xs. xs ++ tickets_of e) new.1);
      right = done.1.right;
      ended = joins.ended ∙ (ap (λ x. is_ended d || x) done.1.ended ∙ or_true (is_ended d));
    },
  )

-- a deposit came from these tickets
pub deposited_from : (t : Tickets) (before : Option Drawer) (Empty : Type 0) (Has : Drawer → Type 0)
    → MatchOption before Empty (λ d. IsDrawerOf t d × Has d) → IfSome before (IsDrawerOf t)
deposited_from t None Empty Has deposited = tt
deposited_from t (Some d) Empty Has deposited = deposited.0

-- a joined drawer came from these tickets
pub joined_from : (t : Tickets) (before : Option Drawer) (d all : Drawer) → IsDrawerOf t d → IsJoined t before d all → IsDrawerOf t all
joined_from t None d all from same = subst (IsDrawerOf t) (sym same) from
joined_from t (Some b) d all from joins = joins.from

-- a reserve came from these tickets
pub new_from : (t : Tickets) (reserve : Option Drawer) → IfSome reserve (HasDrawnNone t) → IfSome reserve (IsDrawerOf t)
new_from t None new = tt
new_from t (Some d) new = new.0
