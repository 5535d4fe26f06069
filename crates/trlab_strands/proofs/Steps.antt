-- Each step keeps the rule of the strands.
use Rattle.std.proofs.Common.{◌≡◌, ℕ, ◌+◌, ◌<◌, ◌≤◌, ◌≢◌, max, eqb, Bool, true, false, cond, List, [], ◌∷◌}
use Rattle.std.proofs.Common.{◌++◌, length, set, slice_index, refl, sym, ap, ◌∙◌, subst, ⊎_elim, zero-le}
use Rattle.std.proofs.Common.{true≢false, arith, length-append, append_assoc, sum_by, append-nil}
use Rattle.std.proofs.lemmas.List.{Sums.sum_by_push, Elements.{All-nil, All-push, All-append, All-weaker}}
use Rattle.std.proofs.lemmas.Bool.Decides.{nat_tests}
use mathlib.Core.Option.{some, none, some-injective}
use lib.ListN.{get_elem?}
use prog.Atomic.{either}
use Rattle.atomic_table.specs.Table.{State, Me, step, keeps, Allows, Splits, Joins}
use Rattle.atomic_table.proofs.Lists.{at_set, set_again, set_else}
use Rattle.trlab_strands.proofs.Seats.{total_set, each_set, each_snoc, alone, times_push, times_append}
use Rattle.trlab_strands.specs.declared.knowledge.{Noted.Noted, StrandKnowledge.StrandKnowledge}
use Rattle.trlab_strands.specs.Knowledge.{noted, event_number, count_with_number, once_below, IsInList}
use Rattle.trlab_strands.specs.Knowledge.{AreInList, no_knowledge, without_list, list_seat, without_one_part}
use Rattle.trlab_strands.specs.Knowledge.{one_part, both_seats, up_to_date, with_event, IsSoundStrand}
use Rattle.trlab_strands.specs.Knowledge.{AreSoundStrands, SatisfiesStrandInvariant, NotesEvent}
use Rattle.trlab_strands.specs.Knowledge.{AgreesWithList, AuditsList, SeesWholeList}

-- the knowledge with these fields
abbrev strand_knowledge : {E : Type 0} → ℕ → List (Noted E) → ℕ → Bool → List E → StrandKnowledge E
strand_knowledge parts events clock has_list list =
    record { parts = parts; events = events; clock = clock; has_list = has_list; list = list }

off : false ≡ true → ⊥
off e = true≢false (sym e)

-- an event that is in a list is in the longer list too
stands_on : {E : Type 0} (events more : List E) (n : Noted E) → IsInList events n → IsInList (events ++ more) n
stands_on events more n stands = (stands.0 ++ more, ap (λ l. l ++ more) stands.1 ∙ append_assoc n.before (n.event ∷ stands.0) more)

once_next : (k n : ℕ) → once_below k (n + 1) ≡ once_below k n + cond (eqb n k) 1 0
once_next k n = grind (arith, nat_tests)

empty : {A : Type 0} (xs : List A) → length xs ≡ 0 → xs ≡ []
empty [] z = refl
empty (x ∷ xs) z = absurd (omega arith)

kept : (b : Bool) → b ≡ true → ◌≡◌ {A = ℕ} (cond b 1 0) 1
kept b e = ap (λ (x : Bool). cond {A = ℕ} x 1 0) e

module _ {E : Type 0} where
  -- two seats have at most the whole sum
  two_le : (f : StrandKnowledge E → ℕ) → f no_knowledge ≡ 0 → (views : List (StrandKnowledge E)) (i j : ℕ) (v u : StrandKnowledge E) → j ≢ i → get_elem? views i ≡ some v → get_elem? views j ≡ some u → f v + f u ≤ sum_by f views
  two_le f none_left views i j v u apart at there =
      let a = total_set f views i v no_knowledge at in
      let b = total_set f (set views i no_knowledge) j u no_knowledge (set_else views i j no_knowledge apart ∙ there) in
      omega arith

  -- of two seats at most one keeps the list
  one_keeper : (events : List E) (views : List (StrandKnowledge E)) (i j : ℕ) (v u : StrandKnowledge E) → AreSoundStrands events views → j ≢ i → get_elem? views i ≡ some v → get_elem? views j ≡ some u → v.has_list ≡ true → u.has_list ≡ true → ⊥
  one_keeper events views i j v u r apart at there first second =
      let both = two_le (λ s. cond s.has_list 1 0) refl views i j v u apart at there in
      let total = r.keepers in
      let a = kept v.has_list first in
      let b = kept u.has_list second in
      omega arith

  -- the list is longer, and another keeps it
  later : (events : List E) (e : E) (u : StrandKnowledge E) → (u.has_list ≡ true → ⊥) → IsSoundStrand events u → IsSoundStrand (events ++ e ∷ []) u
  later events e u another r = record {
    idle = r.idle;
    clock_within = let l = length-append events (e ∷ []) in let p = r.clock_within in omega arith;
    in_list = All-weaker (IsInList events) (IsInList (events ++ e ∷ [])) (stands_on events (e ∷ [])) u.events r.in_list;
    list = λ has. absurd (another has);
  }

  -- the event after the list is of the strand that keeps it
  notes : (events : List E) (views : List (StrandKnowledge E)) (id : ℕ) (v : StrandKnowledge E) (e : E) → get_elem? views id ≡ some v → v.has_list ≡ true → 0 < v.parts
      → AreSoundStrands events views → AreSoundStrands (events ++ e ∷ []) (set views id (with_event v e))
  notes events views id v e at keeping some_part r =
      let w = with_event v e in
      let mine = r.each id v at in
      let known : v.list ≡ events = mine.list keeping in
      let long : length v.list ≡ length events = ap length known in
      let longer : length (events ++ e ∷ []) ≡ length events + 1 = length-append events (e ∷ []) in
      record {
        parts = let t = total_set (λ u. u.parts) views id v w at in let p = r.parts in omega arith;
        keepers = let t = total_set (λ u. cond u.has_list 1 0) views id v w at in let p = r.keepers in omega arith;
        count = let t = total_set (λ u. length u.events) views id v w at in let p = r.count in let q = length-append v.events (noted v.list e ∷ []) in omega arith;
        once = λ k.
            let t = total_set (λ u. count_with_number k u.events) views id v w at in
            let p = r.once k in
            let q = times_push event_number k v.events (noted v.list e) in
            let n : once_below k (length (events ++ e ∷ [])) ≡ once_below k (length v.list) + cond (eqb (length v.list) k) 1 0 = ap (once_below k) (longer ∙ ap (λ (x : ℕ). x + 1) (sym long)) ∙ once_next k (length v.list) in
            let m : once_below k (length v.list) ≡ once_below k (length events) = ap (once_below k) long in
            omega arith;
        each = each_set (IsSoundStrand (events ++ e ∷ [])) views id w
            (record {
              idle = λ z. absurd (omega arith);
              clock_within = omega arith;
              in_list = All-push (IsInList (events ++ e ∷ [])) v.events (noted v.list e)
                  (All-weaker (IsInList events) (IsInList (events ++ e ∷ [])) (stands_on events (e ∷ [])) v.events mine.in_list)
                  ([], ap (λ (l : List E). l ++ e ∷ []) (sym known));
              list = λ _. ap (λ (l : List E). l ++ e ∷ []) known;
            })
            (λ j u apart there. later events e u (λ theirs. one_keeper events views id j v u r apart at there keeping theirs) (r.each j u there));
      }

  -- a strand that keeps the list sees all of it
  sees_all : (events : List E) (views : List (StrandKnowledge E)) (id : ℕ) (v : StrandKnowledge E) → get_elem? views id ≡ some v → v.has_list ≡ true
      → AreSoundStrands events views → AreSoundStrands events (set views id (up_to_date v))
  sees_all events views id v at keeping r =
      let w = up_to_date v in
      let mine = r.each id v at in
      let long : length v.list ≡ length events = ap length (mine.list keeping) in
      record {
        parts = let t = total_set (λ u. u.parts) views id v w at in let p = r.parts in omega arith;
        keepers = let t = total_set (λ u. cond u.has_list 1 0) views id v w at in let p = r.keepers in omega arith;
        count = let t = total_set (λ u. length u.events) views id v w at in let p = r.count in omega arith;
        once = λ k. let t = total_set (λ u. count_with_number k u.events) views id v w at in let p = r.once k in omega arith;
        each = each_set (IsSoundStrand events) views id w (record { idle = mine.idle; clock_within = omega arith; in_list = mine.in_list; list = mine.list }) (λ j u _ there. r.each j u there);
      }

  -- the list leaves a strand
  pub apart : (id : ℕ) (v : StrandKnowledge E) → Splits SatisfiesStrandInvariant id v (without_list v) (list_seat v)
  apart id v s r at =
      let l = without_list v in
      let o = list_seat v in
      let events = r.0 in
      let k = r.1 in
      let mine = k.each id v at in
      let views = set s.views id l in (
        events,
        record {
          parts = let t = total_set (λ u. u.parts) s.views id v l at in let n = sum_by_push (λ (u : StrandKnowledge E). u.parts) views o in let p = k.parts in omega arith;
          keepers = let t = total_set (λ u. cond u.has_list 1 0) s.views id v l at in let n = sum_by_push (λ (u : StrandKnowledge E). cond u.has_list 1 0) views o in let p = k.keepers in omega arith;
          count = let t = total_set (λ u. length u.events) s.views id v l at in let n = sum_by_push (λ (u : StrandKnowledge E). length u.events) views o in let p = k.count in omega arith;
          once = λ x. let t = total_set (λ u. count_with_number x u.events) s.views id v l at in let n = sum_by_push (λ (u : StrandKnowledge E). count_with_number x u.events) views o in let p = k.once x in omega arith;
          each = each_snoc (IsSoundStrand events) views o
              (record { idle = λ _. refl; clock_within = zero-le; in_list = All-nil _; list = mine.list })
              (each_set (IsSoundStrand events) s.views id l (record { idle = mine.idle; clock_within = mine.clock_within; in_list = mine.in_list; list = λ e. absurd (off e) }) (λ j u _ there. k.each j u there));
        },
      )

  -- one part goes to a new strand
  pub splits : (id : ℕ) (v : StrandKnowledge E) → 1 < v.parts → Splits SatisfiesStrandInvariant id v (without_one_part v) (one_part v)
  splits id v two s r at =
      let l = without_one_part v in
      let o = one_part v in
      let events = r.0 in
      let k = r.1 in
      let mine = k.each id v at in
      let views = set s.views id l in (
        events,
        record {
          parts = let t = total_set (λ u. u.parts) s.views id v l at in let n = sum_by_push (λ (u : StrandKnowledge E). u.parts) views o in let p = k.parts in omega arith;
          keepers = let t = total_set (λ u. cond u.has_list 1 0) s.views id v l at in let n = sum_by_push (λ (u : StrandKnowledge E). cond u.has_list 1 0) views o in let p = k.keepers in omega arith;
          count = let t = total_set (λ u. length u.events) s.views id v l at in let n = sum_by_push (λ (u : StrandKnowledge E). length u.events) views o in let p = k.count in omega arith;
          once = λ x. let t = total_set (λ u. count_with_number x u.events) s.views id v l at in let n = sum_by_push (λ (u : StrandKnowledge E). count_with_number x u.events) views o in let p = k.once x in omega arith;
          each = each_snoc (IsSoundStrand events) views o
              (record { idle = λ _. refl; clock_within = mine.clock_within; in_list = All-nil _; list = λ e. absurd (off e) })
              (each_set (IsSoundStrand events) s.views id l (record { idle = λ z. absurd (omega arith); clock_within = mine.clock_within; in_list = mine.in_list; list = mine.list }) (λ j u _ there. k.each j u there));
        },
      )

  -- a strand without the list takes in the knowledge of another seat
  pub joins : (id : ℕ) (v : StrandKnowledge E) (other : ℕ) (w : StrandKnowledge E) → 0 < v.parts → v.has_list ≡ false → Joins SatisfiesStrandInvariant id v other w (both_seats v w) no_knowledge
  joins id v other w some_part unkept s r at apart_ there =
      let b = both_seats v w in
      let events = r.0 in
      let k = r.1 in
      let views = set s.views id b in
      let mine = k.each id v at in
      let theirs : IsSoundStrand events w = ⊎_elim
      (λ (t : (other ≡ id) × (b ≡ w)). absurd (apart_ t.0))
      (λ (t : (other ≢ id) × (get_elem? s.views other ≡ some w)). k.each other w t.1)
      (at_set s.views id other b w there) in
      let none_kept : ◌≡◌ {A = ℕ} (cond v.has_list 1 0) 0 = ap (λ (x : Bool). cond {A = ℕ} x 1 0) unkept in (
        events,
        record {
          parts = let t = total_set (λ u. u.parts) s.views id v b at in let n = total_set (λ u. u.parts) views other w no_knowledge there in let p = k.parts in omega arith;
          keepers = let t = total_set (λ u. cond u.has_list 1 0) s.views id v b at in let n = total_set (λ u. cond u.has_list 1 0) views other w no_knowledge there in let p = k.keepers in omega arith;
          count = let t = total_set (λ u. length u.events) s.views id v b at in let n = total_set (λ u. length u.events) views other w no_knowledge there in let p = k.count in let q = length-append v.events w.events in omega arith;
          once = λ x. let t = total_set (λ u. count_with_number x u.events) s.views id v b at in let n = total_set (λ u. count_with_number x u.events) views other w no_knowledge there in let p = k.once x in let q = times_append event_number x v.events w.events in omega arith;
          each = each_set (IsSoundStrand events) views other no_knowledge (record { idle = λ _. refl; clock_within = zero-le; in_list = All-nil _; list = λ e. absurd (off e) })
              (λ j u _ here. each_set (IsSoundStrand events) s.views id b
              (record { idle = λ z. absurd (omega arith); clock_within = let p = mine.clock_within in let q = theirs.clock_within in omega arith; in_list = All-append (IsInList events) v.events w.events mine.in_list theirs.in_list; list = theirs.list })
              (λ i y _ was. k.each i y was) j u here);
        },
      )

  learns : (id : ℕ) (v : StrandKnowledge E) (s : State E (StrandKnowledge E)) → SatisfiesStrandInvariant s → get_elem? s.views id ≡ some v → AgreesWithList v
  learns id v s r at =
      let events = r.0 in
      let k = r.1 in
      let mine = k.each id v at in
      record {
        few = let t = total_set (λ u. u.parts) s.views id v no_knowledge at in let p = k.parts in omega arith;
        in_list = λ has. subst (λ (l : List E). AreInList l v.events) (sym (mine.list has)) mine.in_list;
        most = λ has.
            let t = total_set (λ u. length u.events) s.views id v no_knowledge at in
            let p = k.count in
            let long = ap length (mine.list has) in
            omega arith;
        whole = λ has every.
            let a = alone (λ u. u.parts) (λ u. length u.events) no_knowledge refl refl s.views id v at (λ j u e z. ap length ((k.each j u e).idle z)) (k.parts ∙ sym every) in
            let p = k.count in
            let long = ap length (mine.list has) in
            omega arith;
        once = λ has every x.
            let long = ap length (mine.list has) in
            let a = alone (λ u. length u.events) (λ u. count_with_number x u.events) no_knowledge refl refl s.views id v at (λ j u e z. ap (count_with_number x) (empty u.events z)) (k.count ∙ sym long ∙ sym every) in
            sym a ∙ k.once x ∙ ap (once_below x) (sym long);
      }

  -- nothing is changed
  still : (s : State E (StrandKnowledge E)) (id : ℕ) (v : StrandKnowledge E) → get_elem? s.views id ≡ some v → SatisfiesStrandInvariant s → (words : List ℕ) → (homes : List (mathlib.Core.Option.Option E))
      → SatisfiesStrandInvariant (record { words = words; homes = homes; views = set s.views id v })
  still s id v at r words homes = (r.0, subst (AreSoundStrands r.0) (sym (set_again s.views id v at)) r.1)

  pub looks : (slots id : ℕ) (me : Me E (StrandKnowledge E)) → Allows SatisfiesStrandInvariant slots id me 0 (λ n. n) (AuditsList (step slots 0 0 0 none) me)
  looks slots id me s r _ at _ = (me.0, keeps, tt, still s id me.0 at r (set s.words 0 (slice_index s.words 0)) s.homes, (refl, learns id me.0 s r at))

  pub writes : (slots id : ℕ) (me : Me E (StrandKnowledge E)) (e : E) → me.0.has_list ≡ true → 0 < me.0.parts
      → Allows SatisfiesStrandInvariant slots id me 0 (λ n. either (eqb n 0) 0 n) (NotesEvent (step slots 0 0 0 (some e)) me)
  writes slots id me e keeping some_part s r _ at _ =
      let mine = r.1.each id me.0 at in
      let long : length me.0.list ≡ length r.0 = ap length (mine.list keeping) in
      let low : me.0.clock ≤ length me.0.list = let p = mine.clock_within in omega arith in (
        with_event me.0 e,
        keeps,
        tt,
        (r.0 ++ e ∷ [], notes r.0 s.views id me.0 e at keeping some_part r.1),
        λ f same. (ap (λ (x : E). (with_event me.0 x, me.1)) (some-injective e f same), low),
      )

  pub sees : (slots id : ℕ) (me : Me E (StrandKnowledge E)) → me.0.has_list ≡ true → Allows SatisfiesStrandInvariant slots id me 0 (λ n. n) (SeesWholeList (step slots 0 0 0 none) me)
  sees slots id me keeping s r _ at _ =
      let mine = r.1.each id me.0 at in
      let long : length me.0.list ≡ length r.0 = ap length (mine.list keeping) in
      let low : me.0.clock ≤ length me.0.list = let p = mine.clock_within in omega arith in
      (up_to_date me.0, keeps, tt, (r.0, sees_all r.0 s.views id me.0 at keeping r.1), (refl, low))

  -- a strand that meets the list
  pub meets : (v k : StrandKnowledge E) → k.has_list ≡ true → both_seats v (list_seat k) ≡ strand_knowledge v.parts v.events v.clock true k.list
  meets v k keeping =
      let a : v.parts + 0 ≡ v.parts = omega arith in
      let b : v.events ++ [] ≡ v.events = append-nil v.events in
      let c : max v.clock 0 ≡ v.clock = omega arith in
      λ i. strand_knowledge (a i) (b i) (c i) (keeping i) k.list

-- a strand that has seen the list, and the list after it
pub record HasLooked {E : Type 0} (v k : StrandKnowledge E) (left right : Me E (StrandKnowledge E)) : Type 0 where
  pub left_slot : left.1 ≡ []
  pub left_list : left.0.has_list ≡ false
  pub left_some : 0 < left.0.parts
  pub right_slot : right.1 ≡ []
  pub right_list : right.0.has_list ≡ true
  pub list : right.0.list ≡ k.list
  pub parts : left.0.parts ≡ v.parts
  pub events : left.0.events ≡ v.events
  pub clock : v.clock ≤ length k.list
  pub next : left.0.clock ≡ length k.list

-- a strand that has noted an event, and the list after it
pub record HasNoted {E : Type 0} (v k : StrandKnowledge E) (e : E) (left right : Me E (StrandKnowledge E)) : Type 0 where
  pub left_slot : left.1 ≡ []
  pub left_list : left.0.has_list ≡ false
  pub left_some : 0 < left.0.parts
  pub right_slot : right.1 ≡ []
  pub right_list : right.0.has_list ≡ true
  pub parts : left.0.parts ≡ v.parts
  pub clock : v.clock ≤ length k.list
  pub events : left.0.events ≡ v.events ++ noted k.list e ∷ []
  pub next : left.0.clock ≡ length k.list + 1

module _ {E : Type 0} where
  -- a strand meets the list, notes an event, and the list leaves it again
  pub noting : (v k : StrandKnowledge E) (c : List (ℕ × E)) (e : E) (list met new left right : Me E (StrandKnowledge E)) → k.has_list ≡ true → c ≡ [] → 0 < v.parts
      → list ≡ (list_seat k, []) → met ≡ (both_seats v list.0, c) → (new ≡ (with_event met.0 e, met.1)) × (met.0.clock ≤ length met.0.list)
      → left ≡ (without_list new.0, new.1) → right ≡ (list_seat new.0, []) → HasNoted v k e left right
  noting v k c e list met new left right keeping free some_part from joined noted left_is right_is =
      let M : Type 0 = Me E (StrandKnowledge E) in
      let both : met ≡ (strand_knowledge v.parts v.events v.clock true k.list, c) = joined ∙ (ap (λ (l : M). (both_seats v l.0, c)) from ∙ ap (λ (u : StrandKnowledge E). (u, c)) (meets v k keeping)) in
      let now : new ≡ (with_event (strand_knowledge v.parts v.events v.clock true k.list) e, c) = noted.0 ∙ ap (λ (m : M). (with_event m.0 e, m.1)) both in
      let l : left ≡ (without_list (with_event (strand_knowledge v.parts v.events v.clock true k.list) e), c) = left_is ∙ ap (λ (m : M). (without_list m.0, m.1)) now in
      let r : right ≡ (list_seat (with_event (strand_knowledge v.parts v.events v.clock true k.list) e), []) = right_is ∙ ap (λ (m : M). (list_seat m.0, [])) now in
      record {
        left_slot = ap (λ (m : M). m.1) l ∙ free;
        left_list = ap (λ (m : M). m.0.has_list) l;
        left_some = subst (λ (m : M). 0 < m.0.parts) (sym l) some_part;
        right_slot = ap (λ (m : M). m.1) r;
        right_list = ap (λ (m : M). m.0.has_list) r;
        parts = ap (λ (m : M). m.0.parts) l;
        clock = subst (λ (m : M). m.0.clock ≤ length m.0.list) both noted.1;
        events = ap (λ (m : M). m.0.events) l;
        next = ap (λ (m : M). m.0.clock) l;
      }

  -- a strand meets the list, sees it, and the list leaves it again
  pub looking : (v k : StrandKnowledge E) (c : List (ℕ × E)) (list met new left right : Me E (StrandKnowledge E)) → k.has_list ≡ true → c ≡ [] → 0 < v.parts
      → list ≡ (list_seat k, []) → met ≡ (both_seats v list.0, c) → (new ≡ (up_to_date met.0, met.1)) × (met.0.clock ≤ length met.0.list)
      → left ≡ (without_list new.0, new.1) → right ≡ (list_seat new.0, []) → HasLooked v k left right
  looking v k c list met new left right keeping free some_part from joined seen left_is right_is =
      let M : Type 0 = Me E (StrandKnowledge E) in
      let both : met ≡ (strand_knowledge v.parts v.events v.clock true k.list, c) = joined ∙ (ap (λ (l : M). (both_seats v l.0, c)) from ∙ ap (λ (u : StrandKnowledge E). (u, c)) (meets v k keeping)) in
      let now : new ≡ (strand_knowledge v.parts v.events (length k.list) true k.list, c) = seen.0 ∙ ap (λ (m : M). (up_to_date m.0, m.1)) both in
      let l : left ≡ (strand_knowledge v.parts v.events (length k.list) false [], c) = left_is ∙ ap (λ (m : M). (without_list m.0, m.1)) now in
      let r : right ≡ (strand_knowledge 0 [] 0 true k.list, []) = right_is ∙ ap (λ (m : M). (list_seat m.0, [])) now in
      record {
        left_slot = ap (λ (m : M). m.1) l ∙ free;
        left_list = ap (λ (m : M). m.0.has_list) l;
        left_some = subst (λ (m : M). 0 < m.0.parts) (sym l) some_part;
        right_slot = ap (λ (m : M). m.1) r;
        right_list = ap (λ (m : M). m.0.has_list) r;
        list = ap (λ (m : M). m.0.list) r;
        parts = ap (λ (m : M). m.0.parts) l;
        events = ap (λ (m : M). m.0.events) l;
        clock = subst (λ (m : M). m.0.clock ≤ length m.0.list) both seen.1;
        next = ap (λ (m : M). m.0.clock) l;
      }

  -- a strand that has met the list keeps it, and has as many parts
  pub met_list : (v k : StrandKnowledge E) (c : List (ℕ × E)) (list met : Me E (StrandKnowledge E)) → k.has_list ≡ true → 0 < v.parts → list ≡ (list_seat k, []) → met ≡ (both_seats v list.0, c)
      → (met.0.has_list ≡ true) × (0 < met.0.parts)
  met_list v k c list met keeping some_part from joined =
      let M : Type 0 = Me E (StrandKnowledge E) in
      let both : met ≡ (strand_knowledge v.parts v.events v.clock true k.list, c) = joined ∙ (ap (λ (l : M). (both_seats v l.0, c)) from ∙ ap (λ (u : StrandKnowledge E). (u, c)) (meets v k keeping)) in
      (ap (λ (m : M). m.0.has_list) both, subst (λ (m : M). 0 < m.0.parts) (sym both) some_part)

  -- a strand that has met the list learns this by a look
  pub learns_met : (v k : StrandKnowledge E) (c : List (ℕ × E)) (list met : Me E (StrandKnowledge E)) → k.has_list ≡ true → list ≡ (list_seat k, []) → met ≡ (both_seats v list.0, c)
      → AgreesWithList met.0 → AgreesWithList (strand_knowledge v.parts v.events v.clock true k.list)
  learns_met v k c list met keeping from joined learnt =
      let M : Type 0 = Me E (StrandKnowledge E) in
      let both : met ≡ (strand_knowledge v.parts v.events v.clock true k.list, c) = joined ∙ (ap (λ (l : M). (both_seats v l.0, c)) from ∙ ap (λ (u : StrandKnowledge E). (u, c)) (meets v k keeping)) in
      subst AgreesWithList (ap (λ (m : M). m.0) both) learnt

  -- a list by itself holds no slot
  pub no_slot : (v : StrandKnowledge E) (m : Me E (StrandKnowledge E)) → m ≡ (v, []) → m.1 ≡ []
  no_slot v m e = ap (λ (x : Me E (StrandKnowledge E)). x.1) e
