-- The facts that one pass of the verdict's loop establishes.
use Rattle.std.proofs.Common.{◌≡◌, ℕ, zero, suc, ◌<◌, ◌≤◌, refl, sym, ap, subst, arith, nat_le, List, length}
use Rattle.std.proofs.Common.{Bool, true, false, Option, Some, None, nat_eq, cond, get_or, ◌∙◌}
use Rattle.std.proofs.Common.{get_or-set_other, get_or-set_same, slice_get, slice_set, eqb-true, leb-false}
use Rattle.std.proofs.{Common.option_map, lemmas.Bool.eqb-false}
use Rattle.trlab_code.specs.{Flow.{target, on_target}, declared.{program.Kind.Kind, instruction.Instr.Instr}}
use Rattle.trlab_notes.specs.{declared.rows.StoredNote.StoredNote, Reasons.{reason_against, reason_number}}
use Rattle.trlab_notes.specs.{declared.reasons.Reason.Reason, Stored.{note_of, stored_note_at, maybe_note}}
use Rattle.trlab_notes.specs.Notes.{Note, entry, closure, maybe_closure, join}
use Rattle.trlab_notes.{specs.Transfer.{next_note, jump_note}, proofs.Closure.{jump_settled, reason_settled}}
use Rattle.trlab_notes.proofs.Closure.{joined_settled, settled_joins, join_is_settled, fall_settled}
use Rattle.trlab_verify.specs.Verdict.{incoming, note_at, add_note, add_notes, next_note_to, jump_note_to}
use Rattle.trlab_verify.specs.Verdict.{if_here, is_target, first_reason_at, reason_number_at}

pub set_is : (table : List (Option StoredNote)) (q : ℕ) (o : Option StoredNote) → q < length table → (x : ℕ) →
    stored_note_at (slice_set table q o) x ≡ cond (nat_eq x q) (maybe_note o) (stored_note_at table x)
set_is table q o h x = at x (nat_eq x q) refl
  where
    at : (x : ℕ) (b : Bool) → nat_eq x q ≡ b → stored_note_at (slice_set table q o) x ≡ cond b (maybe_note o) (stored_note_at table x)
    at x true e = let p : x ≡ q = eqb-true x q e in subst (λ z. stored_note_at (slice_set table q o) z ≡ maybe_note o) (sym p) (ap maybe_note (get_or-set_same table q o None h))
    at x false e = ap maybe_note (get_or-set_other table q x o None (eqb-false x q e))

-- pc has no incoming note
pub unreached : (kind own : Kind) (code : List Instr) (pc : ℕ) → note_at kind code pc ≡ None →
    reason_number_at kind (record { kind = own; instrs = code }) pc ≡ Some 1
unfolding reason_number_at
unreached kind own code pc e = subst (λ z. option_map reason_number (first_reason_at kind own (length code) pc z (slice_get code pc)) ≡ Some 1) (sym e) refl

-- the reason at pc
pub tested : (kind own : Kind) (code : List Instr) (pc : ℕ) (m : Note) (i : Instr) (o : Option Reason) →
    note_at kind code pc ≡ Some m → slice_get code pc ≡ Some i →
    reason_against kind own (length code) pc m i ≡ o → reason_number_at kind (record { kind = own; instrs = code }) pc ≡ option_map reason_number o
unfolding reason_number_at
tested kind own code pc m i o em ei h =
    let least : Option Note → Option Instr → Option ℕ = λ note instr. option_map reason_number (first_reason_at kind own (length code) pc note instr) in
    let here : least (Some m) (Some i) ≡ option_map reason_number o = ap (option_map reason_number) h in
    let h2 : least (Some m) (slice_get code pc) ≡ option_map reason_number o = subst (λ z. least (Some m) z ≡ option_map reason_number o) (sym ei) here in
    subst (λ z. least z (slice_get code pc) ≡ option_map reason_number o) (sym em) h2

-- the incoming notes with those of one more instruction
pub one_more : (kind : Kind) (code : List Instr) (pc q : ℕ) (m : Note) (i : Instr) (old : Option Note) →
    note_at kind code pc ≡ Some m → slice_get code pc ≡ Some i → old ≡ incoming kind code pc q →
    add_notes pc (Some m) (Some i) q old ≡ incoming kind code (suc pc) q
one_more kind code pc q m i old em ei eo =
    let h : add_notes pc (note_at kind code pc) (slice_get code pc) q (incoming kind code pc q) ≡ incoming kind code (suc pc) q = refl in
    let h1 = subst (λ z. add_notes pc z (slice_get code pc) q (incoming kind code pc q) ≡ incoming kind code (suc pc) q) em h in
    let h2 = subst (λ z. add_notes pc (Some m) z q (incoming kind code pc q) ≡ incoming kind code (suc pc) q) ei h1 in
    subst (λ z. add_notes pc (Some m) (Some i) q z ≡ incoming kind code (suc pc) q) (sym eo) h2

pub joins_none : (table : List (Option StoredNote)) (q : ℕ) (n j : StoredNote) (new : Option StoredNote) → get_or table q None ≡ None →
    new ≡ Some j → note_of j ≡ join (note_of n) (note_of n) → maybe_note new ≡ add_note (stored_note_at table q) (Some (note_of n))
joins_none table q n j new e f g = subst (λ z. maybe_note new ≡ add_note (maybe_note z) (Some (note_of n))) (sym e) (ap maybe_note f ∙ ap Some g)

pub joins_some : (table : List (Option StoredNote)) (q : ℕ) (old n j : StoredNote) (new : Option StoredNote) →
    get_or table q None ≡ Some old → new ≡ Some j → note_of j ≡ join (note_of old) (note_of n) →
    maybe_note new ≡ add_note (stored_note_at table q) (Some (note_of n))
joins_some table q old n j new e f g = subst (λ z. maybe_note new ≡ add_note (maybe_note z) (Some (note_of n))) (sym e) (ap maybe_note f ∙ ap Some g)

pub is_none : (o : Option StoredNote) → ((n : StoredNote) → o ≡ Some n → ⊥) → o ≡ None
is_none None h = refl
is_none (Some n) h = absurd (h n refl)

some_is : (m n : Note) → Some m ≡ Some n → m ≡ n
some_is m n e = cc e

-- a note that has all its known levels as levels joins as the note does
comes : (old edge : Option Note) (n : Note) → maybe_closure edge ≡ Some n → add_note old (Some n) ≡ add_note old edge
comes old None n h = absurd (cc h)
comes None (Some k) n h =
    let e : n ≡ closure k = sym (some_is (closure k) n h) in
    ap Some (ap (λ z. join z z) e ∙ joined_settled (closure k) k ∙ settled_joins k k)
comes (Some m) (Some k) n h =
    let e : n ≡ closure k = sym (some_is (closure k) n h) in
    ap Some (ap (join m) e ∙ joined_settled m k)

-- a note that is sent to p is sent to q if q is p
pub edge_comes : (f g : ℕ → Option Note) (p q : ℕ) (n : Note) (edge : Option Note) →
    g q ≡ cond (nat_eq q p) (add_note (f p) (Some n)) (f q) → maybe_closure edge ≡ Some n → g q ≡ add_note (f q) (if_here (nat_eq q p) edge)
edge_comes f g p q n edge e h = e ∙ at (nat_eq q p) refl
  where
    at : (b : Bool) → nat_eq q p ≡ b → cond b (add_note (f p) (Some n)) (f q) ≡ add_note (f q) (if_here b edge)
    at true w = let k : q ≡ p = eqb-true q p w in ap (λ z. add_note (f z) (Some n)) (sym k) ∙ comes (f q) edge n h
    at false w = refl

-- a stored note is the closure of the note
pub whose : (o : Option Note) (n : Note) → Some n ≡ maybe_closure o → (m : Note) × (o ≡ Some m) × (n ≡ closure m)
whose None n h = absurd (cc h)
whose (Some m) n h = (m, refl, some_is n (closure m) h)

pub no_note : (o : Option Note) → maybe_closure o ≡ None → o ≡ None
no_note None h = refl
no_note (Some m) h = absurd (cc h)

-- its reasons are those of the note
pub reason_same : (kind own : Kind) (len pc : ℕ) (m n : Note) (i : Instr) → n ≡ closure m →
    reason_against kind own len pc m i ≡ reason_against kind own len pc n i
reason_same kind own len pc m n i e =
    sym (reason_settled m kind own len pc i) ∙ ap (λ z. reason_against kind own len pc z i) (sym e)

-- and the notes that it sends join as the notes of the original do
step : (old e d : Option Note) → maybe_closure d ≡ maybe_closure e → add_note (maybe_closure old) d ≡ maybe_closure (add_note old e)
step old None None h = refl
step old None (Some d) h = absurd (cc h)
step old (Some e) None h = absurd (cc h)
step None (Some e) (Some d) h =
    let s : closure d ≡ closure e = some_is (closure d) (closure e) h in
    ap Some (sym (settled_joins d d) ∙ sym (joined_settled (closure d) d) ∙ ap (λ z. join z z) s ∙ joined_settled (closure e) e ∙ settled_joins e e ∙ sym (join_is_settled e e))
step (Some m) (Some e) (Some d) h =
    let s : closure d ≡ closure e = some_is (closure d) (closure e) h in
    ap Some (settled_joins m d ∙ sym (joined_settled m d) ∙ ap (join m) s ∙ joined_settled m e ∙ sym (join_is_settled m e))

sent_here : (b : Bool) (d e : Option Note) → maybe_closure d ≡ maybe_closure e → maybe_closure (if_here b d) ≡ maybe_closure (if_here b e)
sent_here true d e h = h
sent_here false d e h = refl

edges_settled : (pc q : ℕ) (m : Note) (i : Instr) (old : Option Note) →
    add_notes pc (Some (closure m)) (Some i) q (maybe_closure old) ≡ maybe_closure (add_notes pc (Some m) (Some i) q old)
edges_settled pc q m i old =
    ap (λ z. add_note z (jump_note_to (closure m) i q)) (step old (next_note_to pc m i q) (next_note_to pc (closure m) i q) (sent_here (nat_eq q (suc pc)) (next_note (closure m) i) (next_note m i) (fall_settled m i)))
    ∙ step (add_note old (next_note_to pc m i q)) (jump_note_to m i q) (jump_note_to (closure m) i q) (sent_here (is_target (target i) q) (Some (jump_note (closure m) i)) (Some (jump_note m i)) (ap Some (jump_settled m i)))

pub one_more_kept : (kind : Kind) (code : List Instr) (pc q : ℕ) (m n : Note) (i : Instr) (kept : Option Note) →
    note_at kind code pc ≡ Some m → slice_get code pc ≡ Some i → n ≡ closure m → kept ≡ maybe_closure (incoming kind code pc q) →
    add_notes pc (Some n) (Some i) q kept ≡ maybe_closure (incoming kind code (suc pc) q)
one_more_kept kind code pc q m n i kept em ei e h =
    (λ z. add_notes pc (Some (e z)) (Some i) q (h z)) ∙ edges_settled pc q m i (incoming kind code pc q) ∙ ap maybe_closure (one_more kind code pc q m i (incoming kind code pc q) em ei refl)

-- the incoming note of a later instruction is a join, and has all its known levels as levels
join_settled : (old e : Option Note) → maybe_closure old ≡ old → maybe_closure (add_note old e) ≡ add_note old e
join_settled old None h = h
join_settled None (Some n) h = ap Some (join_is_settled n n)
join_settled (Some m) (Some n) h = ap Some (join_is_settled m n)

edges_joined : (pc q : ℕ) (note : Option Note) (i : Option Instr) (old : Option Note) → maybe_closure old ≡ old →
    maybe_closure (add_notes pc note i q old) ≡ add_notes pc note i q old
edges_joined pc q (Some m) (Some i) old h = join_settled (add_note old (next_note_to pc m i q)) (jump_note_to m i q) (join_settled old (next_note_to pc m i q) h)
edges_joined pc q None i old h = h
edges_joined pc q (Some m) None old h = h

pub incoming_settled : (kind : Kind) (code : List Instr) (n q : ℕ) → 0 < q → maybe_closure (incoming kind code n q) ≡ incoming kind code n q
incoming_settled kind code zero q above = at (nat_eq q 0) refl
  where
    at : (b : Bool) → nat_eq q 0 ≡ b → maybe_closure (if_here b (Some (entry kind))) ≡ if_here b (Some (entry kind))
    at true e = let z : q ≡ 0 = eqb-true q 0 e in absurd (omega arith)
    at false e = refl
incoming_settled kind code (suc n) q above = edges_joined n q (incoming kind code n n) (slice_get code n) (incoming kind code n q) (incoming_settled kind code n q above)

-- an instruction that does not jump back sends no note back
pub none_back : (pc q : ℕ) (m : Note) (i : Instr) (old : Option Note) → q ≤ pc → on_target (λ t. nat_le t pc) (target i) ≡ false →
    add_notes pc (Some m) (Some i) q old ≡ old
none_back pc q m i old le f = rw (next (nat_eq q (suc pc)) refl, aimed (target i) f (is_target (target i) q) refl) refl
  where
    next : (b : Bool) → nat_eq q (suc pc) ≡ b → nat_eq q (suc pc) ≡ false
    next true e = let same : q ≡ suc pc = eqb-true q (suc pc) e in absurd (omega arith)
    next false e = e

    aimed : (t : Option ℕ) → on_target (λ t. nat_le t pc) t ≡ false → (b : Bool) → is_target t q ≡ b → is_target t q ≡ false
    aimed (Some t) f true e = let same : q ≡ t = eqb-true q t e in let above : pc < t = leb-false t pc f in absurd (omega arith)
    aimed None f true e = absurd (cc e)
    aimed t f false e = e
