-- Each step keeps the rule of the tickets.
use Rattle.std.proofs.Common.{◌≡◌, ℕ, ◌+◌, ◌-◌, ◌%◌, ◌^◌, ◌<◌, ◌≤◌, ◌≢◌, ◌⊎◌, min, eqb, Bool, true, false}
use Rattle.std.proofs.Common.{cond, ◌||◌, List, [], ◌∷◌, set, refl, sym, ap, ◌∙◌, subst, inl, inr, ⊎_elim}
use Rattle.std.proofs.Common.{le_trans, le_refl, zero-le, true≢false, arith, length-set, get_or-set_same}
use Rattle.std.proofs.{Common.{slice_index, sum_by, ◌↔◌}, lemmas.List.Sums.{sum_by-cons, sum_by_push}}
use Rattle.std.proofs.lemmas.Bool.Decides.{nat_tests}
use mathlib.Core.Option.{some, none}
use native.Mathlib.Decide.{dec_le}
use lib.ListN.{get_elem?}
use Rattle.atomic_table.specs.Table.{State, Me, step, Act, keeps, stepped, Allows, Splits, Joins}
use Rattle.atomic_table.proofs.Lists.{at_set, set_again}
use Rattle.trlab_bounds.specs.declared.runs.TheConstants.{MAX_WORKERS}
use Rattle.trlab_strands.proofs.Seats.{total_set, each_set, each_snoc, alone, times_push, times_append}
use Rattle.trlab_strands.specs.Knowledge.{once_below}
use Rattle.trlab_segments.specs.declared.ticket_rule.{Plan.Plan, TicketKnowledge.TicketKnowledge}
use Rattle.trlab_segments.specs.Knowledge.{occurrences, IsPermutation, idle_knowledge, with_ticket, at_end}
use Rattle.trlab_segments.specs.Knowledge.{less_a_pass, one_pass, both_drawers, passes_at_end, IsSoundDrawer}
use Rattle.trlab_segments.specs.Knowledge.{AreSoundDrawers, SatisfiesTicketInvariant, DrawsTicket}
use Rattle.trlab_segments.specs.Knowledge.{ReadsCounter, AgreesWithCounter}

total_le : (f g : TicketKnowledge → ℕ) → ((v : TicketKnowledge) → f v ≤ g v) → (views : List TicketKnowledge) → sum_by f views ≤ sum_by g views
total_le f g less [] = omega arith
total_le f g less (v ∷ vs) = let a = less v in let b = total_le f g less vs in omega (arith, sum_by-cons f v vs, sum_by-cons g v vs)

ended_le : (v : TicketKnowledge) → passes_at_end v ≤ v.passes
ended_le v = at v.has_ended
  where
    at : (b : Bool) → cond b v.passes 0 ≤ v.passes
    at true = omega arith
    at false = omega arith

once_next : (x counter count : ℕ) → counter < count → once_below x (min count (counter + 1)) ≡ once_below x (min count counter) + cond (eqb counter x) 1 0
once_next x counter count less = grind (arith, nat_tests)

later : (plan : Plan) (counter counter' : ℕ) (v : TicketKnowledge) → counter ≤ counter' → IsSoundDrawer plan counter v → IsSoundDrawer plan counter' v
later plan counter counter' v more r = record { idle = r.idle; same_plan = r.same_plan; late = λ e. le_trans (r.late e) more; least_next_within = le_trans r.least_next_within more }

-- each view is sound if one has changed and the counter is not smaller
each_later : (plan : Plan) (counter counter' : ℕ) (views : List TicketKnowledge) (id : ℕ) (w : TicketKnowledge) → counter ≤ counter' → IsSoundDrawer plan counter' w
    → ((j : ℕ) (u : TicketKnowledge) → get_elem? views j ≡ some u → IsSoundDrawer plan counter u) → (j : ℕ) (u : TicketKnowledge) → get_elem? (set views id w) j ≡ some u → IsSoundDrawer plan counter' u
each_later plan counter counter' views id w more mine others =
    each_set (IsSoundDrawer plan counter') views id w mine (λ j u _ e. later plan counter counter' u more (others j u e))

-- the counter increases by one, and the number is the drawer's
takes : (plan : Plan) (counter : ℕ) (views : List TicketKnowledge) (id : ℕ) (v : TicketKnowledge) → get_elem? views id ≡ some v → v.has_ended ≡ false → 0 < v.passes → counter < plan.count
    → AreSoundDrawers plan counter views → AreSoundDrawers plan (counter + 1) (set views id (with_ticket v counter))
takes plan counter views id v at unended some_pass less r = let w = with_ticket v counter in let mine = r.each id v at in record {
  passes = let t = total_set (λ u. u.passes) views id v w at in let p = r.passes in omega arith;
  once = λ x. let t = total_set (λ u. occurrences x u.tickets) views id v w at in let p = r.once x in let q = times_push (λ n. n) x v.tickets counter in let n = once_next x counter plan.count less in omega arith;
  counter_is = omega arith;
  each = each_later plan counter (counter + 1) views id w (omega arith) (record { idle = λ z. absurd (omega arith); same_plan = mine.same_plan; late = λ e. absurd (true≢false (sym e ∙ unended)); least_next_within = le_refl (counter + 1) }) r.each;
}

-- no number was left, and the drawer is ended
stops : (plan : Plan) (counter : ℕ) (views : List TicketKnowledge) (id : ℕ) (v : TicketKnowledge) → get_elem? views id ≡ some v → v.has_ended ≡ false → 0 < v.passes → plan.count ≤ counter
    → AreSoundDrawers plan counter views → AreSoundDrawers plan (counter + 1) (set views id (at_end v))
stops plan counter views id v at unended some_pass more r = let w = at_end v in let mine = r.each id v at in record {
  passes = let t = total_set (λ u. u.passes) views id v w at in let p = r.passes in omega arith;
  once = λ x. let t = total_set (λ u. occurrences x u.tickets) views id v w at in let p = r.once x in let n : once_below x (min plan.count (counter + 1)) ≡ once_below x (min plan.count counter) = ap (once_below x) (omega arith) in omega arith;
  counter_is = let t = total_set passes_at_end views id v w at in let z : passes_at_end v ≡ 0 = ap (λ b. cond b v.passes 0) unended in let p = r.counter_is in omega arith;
  each = each_later plan counter (counter + 1) views id w (omega arith) (record { idle = λ z. absurd (omega arith); same_plan = mine.same_plan; late = λ e. omega arith; least_next_within = le_trans mine.least_next_within (omega arith) }) r.each;
}

-- the rule if the counter becomes n
with_counter : (plan : Plan) (s : State ℕ TicketKnowledge) (n : ℕ) (id : ℕ) (w : TicketKnowledge) (c : List (ℕ × ℕ)) → SatisfiesTicketInvariant plan s → AreSoundDrawers plan n (set s.views id w) → SatisfiesTicketInvariant plan (stepped s 0 n id c w keeps)
with_counter plan s n id w c r k = let l = r.one_word in record {
  one_word = length-set s.words 0 n ∙ l;
  count = r.count;
  drawers = r.drawers;
  known = subst (λ (z : ℕ). AreSoundDrawers plan z (set s.views id w)) (sym (get_or-set_same s.words 0 n 0 (omega arith))) k;
}

next_counter : (plan : Plan) (s : State ℕ TicketKnowledge) → SatisfiesTicketInvariant plan s → (slice_index s.words 0 + 1) % 2 ^ 64 ≡ slice_index s.words 0 + 1
next_counter plan s r = let a = r.known.counter_is in let b = total_le passes_at_end (λ v. v.passes) ended_le s.views in let c = r.known.passes in let d = r.count in let e = r.drawers in omega arith

pub draws : (plan : Plan) (slots id : ℕ) (me : Me ℕ TicketKnowledge) → me.0.plan ≡ plan → me.0.has_ended ≡ false → 0 < me.0.passes
    → Allows (SatisfiesTicketInvariant plan) slots id me 0 (λ n. (n + 1) % 2 ^ 64) (DrawsTicket (step slots 0 1 0 none) me)
draws plan slots id me same unended some_pass s r _ at _ = cases (dec_le plan.count (slice_index s.words 0))
  where
    counter : ℕ
    counter = slice_index s.words 0

    cases : Dec (plan.count ≤ slice_index s.words 0) → (w : TicketKnowledge) × (a : Act ℕ) × Rattle.atomic_table.specs.Table.Valid s.homes me.1 a × SatisfiesTicketInvariant plan (stepped s 0 ((slice_index s.words 0 + 1) % 2 ^ 64) id me.1 w a) × DrawsTicket (step slots 0 1 0 none) me (slice_index s.words 0) (w, Rattle.atomic_table.specs.Table.carried_after me.1 a)
    cases (yes more) = (
      at_end me.0,
      keeps,
      tt,
      subst (λ (z : ℕ). SatisfiesTicketInvariant plan (stepped s 0 z id me.1 (at_end me.0) keeps)) (sym (next_counter plan s r)) (with_counter plan s (slice_index s.words 0 + 1) id (at_end me.0) me.1 r (stops plan (slice_index s.words 0) s.views id me.0 at unended some_pass more r.known)),
      (refl, (r.known.each id me.0 at).least_next_within, (λ less. let e = ap (λ (p : Plan). p.count) same in absurd (omega arith)), λ _. refl),
    )
    cases (no not_more) = let less : slice_index s.words 0 < plan.count = Rattle.std.proofs.Common.lt_of_not-le not_more in (
      with_ticket me.0 (slice_index s.words 0),
      keeps,
      tt,
      subst (λ (z : ℕ). SatisfiesTicketInvariant plan (stepped s 0 z id me.1 (with_ticket me.0 (slice_index s.words 0)) keeps)) (sym (next_counter plan s r)) (with_counter plan s (slice_index s.words 0 + 1) id (with_ticket me.0 (slice_index s.words 0)) me.1 r (takes plan (slice_index s.words 0) s.views id me.0 at unended some_pass less r.known)),
      (refl, (r.known.each id me.0 at).least_next_within, (λ _. refl), λ more. let e = ap (λ (p : Plan). p.count) same in absurd (omega arith)),
    )

pub splits : (plan : Plan) (id : ℕ) (v : TicketKnowledge) → 1 < v.passes → Splits (SatisfiesTicketInvariant plan) id v (less_a_pass v) (one_pass v)
splits plan id v two s r at =
    let l = less_a_pass v in
    let o = one_pass v in
    let views = set s.views id l in
    let k = r.known in
    let mine = k.each id v at in
    let counter = slice_index s.words 0 in
    let last = λ (f : TicketKnowledge → ℕ). sum_by_push f views o in
    record {
      one_word = r.one_word;
      count = r.count;
      drawers = r.drawers;
      known = record {
        passes = let t = total_set (λ u. u.passes) s.views id v l at in let e = last (λ u. u.passes) in let p = k.passes in omega arith;
        once = λ x. let t = total_set (λ u. occurrences x u.tickets) s.views id v l at in let e = last (λ u. occurrences x u.tickets) in let p = k.once x in omega arith;
        counter_is = let t = total_set passes_at_end s.views id v l at in let e = last passes_at_end in let p = k.counter_is in let q = shares v.passes two v.has_ended in omega arith;
        each = each_snoc (IsSoundDrawer plan counter) views o
            (record { idle = λ z. absurd (omega arith); same_plan = λ _. mine.same_plan (omega arith); late = mine.late; least_next_within = zero-le })
            (each_later plan counter counter s.views id l (omega arith) (record { idle = λ z. absurd (omega arith); same_plan = λ _. mine.same_plan (omega arith); late = mine.late; least_next_within = mine.least_next_within }) k.each);
      };
    }
  where
    shares : (n : ℕ) → 1 < n → (b : Bool) → cond b (n - 1) 0 + cond b 1 0 ≡ cond b n 0
    shares n two true = omega arith
    shares n two false = omega arith

or_true : (a b : Bool) → (a || b) ≡ true → (a ≡ true) ⊎ (b ≡ true)
or_true true b e = inl refl
or_true false b e = inr e

ended_both : (a b : Bool) (m n : ℕ) → cond a m 0 + cond b n 0 ≤ cond (a || b) (m + n) 0
ended_both true true m n = omega arith
ended_both true false m n = omega arith
ended_both false true m n = omega arith
ended_both false false m n = omega arith

pub joins : (plan : Plan) (id : ℕ) (v : TicketKnowledge) (other : ℕ) (w : TicketKnowledge) → 0 < v.passes → 0 < w.passes → Joins (SatisfiesTicketInvariant plan) id v other w (both_drawers v w) idle_knowledge
joins plan id v other w some_v some_w s r at apart there =
    let b = both_drawers v w in
    let views = set s.views id b in
    let k = r.known in
    let mine = k.each id v at in
    let counter = slice_index s.words 0 in
    let theirs : IsSoundDrawer plan counter w = ⊎_elim
    (λ (t : (other ≡ id) × (b ≡ w)). absurd (apart t.0))
    (λ (t : (other ≢ id) × (get_elem? s.views other ≡ some w)). k.each other w t.1)
    (at_set s.views id other b w there) in
    let late : (v.has_ended || w.has_ended) ≡ true → plan.count ≤ counter = λ e. ⊎_elim mine.late theirs.late (or_true v.has_ended w.has_ended e) in
    record {
      one_word = r.one_word;
      count = r.count;
      drawers = r.drawers;
      known = record {
        passes = let t = total_set (λ u. u.passes) s.views id v b at in let e = total_set (λ u. u.passes) views other w idle_knowledge there in let p = k.passes in omega arith;
        once = λ x. let t = total_set (λ u. occurrences x u.tickets) s.views id v b at in let e = total_set (λ u. occurrences x u.tickets) views other w idle_knowledge there in let p = k.once x in let q = times_append (λ n. n) x v.tickets w.tickets in omega arith;
        counter_is = let t = total_set passes_at_end s.views id v b at in let e = total_set passes_at_end views other w idle_knowledge there in let p = k.counter_is in let q = ended_both v.has_ended w.has_ended v.passes w.passes in omega arith;
        each = each_later plan counter counter views other idle_knowledge (omega arith) (record { idle = λ _. refl; same_plan = λ z. absurd (omega arith); late = λ e. absurd (true≢false (sym e)); least_next_within = zero-le })
            (each_later plan counter counter s.views id b (omega arith) (record { idle = λ z. absurd (omega arith); same_plan = λ _. mine.same_plan some_v; late = late; least_next_within = zero-le }) k.each);
      };
    }

-- the view with every pass has the whole sum
every_pass : (f : TicketKnowledge → ℕ) → f idle_knowledge ≡ 0 → (plan : Plan) (counter : ℕ) (views : List TicketKnowledge) (id : ℕ) (v : TicketKnowledge) → get_elem? views id ≡ some v → v.passes ≡ plan.drawers → AreSoundDrawers plan counter views → sum_by f views ≡ f v
every_pass f zero_f plan counter views id v at every k =
    alone (λ u. u.passes) f idle_knowledge refl zero_f views id v at (λ j u e z. ap f ((k.each j u e).idle z) ∙ zero_f) (k.passes ∙ sym every)

passes_le : (plan : Plan) (counter : ℕ) (views : List TicketKnowledge) (id : ℕ) (v : TicketKnowledge) → get_elem? views id ≡ some v → AreSoundDrawers plan counter views → v.passes ≤ plan.drawers
passes_le plan counter views id v at k = let t = total_set (λ u. u.passes) views id v idle_knowledge at in let p = k.passes in omega arith

learns : (plan : Plan) (id : ℕ) (mine : TicketKnowledge) → mine.plan ≡ plan → 0 < mine.passes → (s : State ℕ TicketKnowledge) → SatisfiesTicketInvariant plan s → get_elem? s.views id ≡ some mine → AgreesWithCounter (slice_index s.words 0) mine
learns plan id mine same some_pass s r at =
    let counter = slice_index s.words 0 in
    let P : Plan → Type 0 = λ p. (mine.passes ≤ p.drawers) × (p.drawers ≤ MAX_WORKERS) × (mine.passes ≡ p.drawers → IsPermutation mine.tickets (min p.count counter)) × (mine.has_ended ≡ true → p.count ≤ counter) in
    let h : P plan = (
      passes_le plan counter s.views id mine at r.known,
      r.drawers,
      (λ every x. sym (every_pass (λ u. occurrences x u.tickets) refl plan counter s.views id mine at every r.known) ∙ r.known.once x),
      (r.known.each id mine at).late,
    ) in
    let q = subst P (sym same) h in
    record { passes = q.0; drawers = q.1; whole = q.2; late = q.3 }

-- the counter is read, and nothing changes
still : (plan : Plan) (s : State ℕ TicketKnowledge) (n id : ℕ) (w : TicketKnowledge) (c : List (ℕ × ℕ)) → n ≡ slice_index s.words 0 → get_elem? s.views id ≡ some w → SatisfiesTicketInvariant plan s → SatisfiesTicketInvariant plan (stepped s 0 n id c w keeps)
still plan s n id w c same at r = with_counter plan s n id w c r (let P : List TicketKnowledge → Type 0 = AreSoundDrawers plan n in subst P (sym (set_again s.views id w at)) (subst (λ (z : ℕ). AreSoundDrawers plan z s.views) (sym same) r.known))

pub looks : (plan : Plan) (slots id : ℕ) (me : Me ℕ TicketKnowledge) → me.0.plan ≡ plan → 0 < me.0.passes → Allows (SatisfiesTicketInvariant plan) slots id me 0 (λ n. n) (ReadsCounter (step slots 0 0 0 none) me)
looks plan slots id me same some_pass s r _ at _ = (me.0, keeps, tt, still plan s (slice_index s.words 0) id me.0 me.1 refl at r, (refl, learns plan id me.0 same some_pass s r at))

pub adds_none : (plan : Plan) (slots id : ℕ) (me : Me ℕ TicketKnowledge) → me.0.plan ≡ plan → 0 < me.0.passes → Allows (SatisfiesTicketInvariant plan) slots id me 0 (λ n. (n + 0) % 2 ^ 64) (ReadsCounter (step slots 0 0 0 none) me)
adds_none plan slots id me same some_pass s r _ at small = (me.0, keeps, tt, still plan s ((slice_index s.words 0 + 0) % 2 ^ 64) id me.0 me.1 (omega arith) at r, (refl, learns plan id me.0 same some_pass s r at))

once_at : (k n : ℕ) → k < n → once_below k n ≡ 1
once_at k n less = grind (arith, nat_tests)

-- if the counter has not passed every number, the numbers below it are not all
pub not_whole : (xs : List ℕ) (counter count : ℕ) → counter < count → IsPermutation xs (min count counter) → IsPermutation xs count → ⊥
not_whole xs counter count less some_of_them whole =
    let a = some_of_them counter in
    let b = whole counter in
    let m : min count counter ≡ counter = omega arith in
    let c : once_below counter (min count counter) ≡ 0 = ap (once_below counter) m ∙ here counter in
    let d : once_below counter count ≡ 1 = once_at counter count less in
    omega arith
  where
    here : (n : ℕ) → once_below n n ≡ 0
    here n = grind (arith, nat_tests)

-- a whole list has each number below the count
pub whole_has : (xs : List ℕ) (n k : ℕ) → IsPermutation xs n → k < n → 0 < occurrences k xs
whole_has xs n k whole less = let w = whole k in let o = once_at k n less in omega arith

-- the counter is bounded
pub bounded : (plan : Plan) (s : State ℕ TicketKnowledge) → SatisfiesTicketInvariant plan s → slice_index s.words 0 ≤ plan.count + MAX_WORKERS
bounded plan s r = let a = r.known.counter_is in let b = total_le passes_at_end (λ u. u.passes) ended_le s.views in let c = r.known.passes in let e = r.drawers in omega arith

-- with all passes a drawer has all tickets exactly if the counter has reached the count
pub all_tickets : (plan : Plan) (s : State ℕ TicketKnowledge) (seat : ℕ) (mine : TicketKnowledge) → SatisfiesTicketInvariant plan s → get_elem? s.views seat ≡ some mine → mine.passes ≡ plan.drawers
    → IsPermutation mine.tickets plan.count ↔ (plan.count ≤ slice_index s.words 0)
all_tickets plan s seat mine r at every =
    let counter = slice_index s.words 0 in
    let drawn : IsPermutation mine.tickets (min plan.count counter) = λ x. sym (every_pass (λ u. occurrences x u.tickets) refl plan counter s.views seat mine at every r.known) ∙ r.known.once x in (
      (λ whole. elim (dec_le plan.count counter) [
        | yes more ↦ more
        | no not_more ↦ absurd (not_whole mine.tickets counter plan.count (Rattle.std.proofs.Common.lt_of_not-le not_more) drawn whole)
      ]),
      λ more. let enough : min plan.count counter ≡ plan.count = omega arith in subst (IsPermutation mine.tickets) enough drawn,
    )
