-- The note of an instruction is the strongest one that is no stronger than each note that is sent to it.
use Rattle.std.proofs.Common.{◌≡◌, ◌⊎◌, ℕ, zero, suc, ◌<◌, ◌≤◌, inl, inr, refl, sym, subst, arith, List, Bool}
use Rattle.std.proofs.Common.{true, false, Option, Some, None, nat_eq, slice_get, IfSome, eqb-true, eq-eqb}
use Rattle.std.proofs.lemmas.Bool.{cases_lt}
use Rattle.trlab_code.specs.declared.{program.Kind.Kind, instruction.Instr.Instr}
use Rattle.trlab_notes.{proofs.Order.{same_note, join_most}, specs.Notes.{Note, entry, IsNoStronger}}
use Rattle.trlab_verify.specs.Verdict.{add_note, add_notes, if_here, next_note_to, jump_note_to, incoming}
use Rattle.trlab_verify.specs.Verdict.{note_at, IsSent, Sends}
use Rattle.trlab_verify.proofs.VerdictChecks.{Under, under_old, under_new, under_edges}

module _ (kind : Kind) (code : List Instr) (q : ℕ) where
  -- the incoming note is no stronger than each note that was sent
  start_under : (b : Bool) → nat_eq q 0 ≡ b → q ≡ 0 → Under (entry kind) (if_here b (Some (entry kind)))
  start_under true e z = (entry kind, refl, same_note (entry kind))
  start_under false e z = absurd (cc (sym (eq-eqb q 0 z), e))

  under_start : (k : ℕ) → q ≡ 0 → Under (entry kind) (incoming kind code k q)
  under_start zero z = start_under (nat_eq q 0) refl z
  under_start (suc k) z = under_edges (entry kind) k (incoming kind code k k) (slice_get code k) q (incoming kind code k q) (under_start k z)

  under_sent : (k p : ℕ) (n : Note) → p < k → Sends kind code p q n → Under n (incoming kind code k q)
  under_sent zero p n lt s = absurd (omega arith)
  under_sent (suc k) p n lt s =
      elim (cases_lt p k) [
        | inl less ↦ under_edges n k (incoming kind code k k) (slice_get code k) q (incoming kind code k q) (under_sent k p n less s)
        | inr ge ↦ let e : p ≡ k = omega arith in here (subst (λ z. Sends kind code z q n) e s)
      ]
    where
      here : Sends kind code k q n → Under n (incoming kind code (suc k) q)
      here s = rw (s.before_is, s.instr_is) (elim s.sent [
        | inl falls ↦ under_old n (add_note (incoming kind code k q) (next_note_to k s.before s.instr q)) (jump_note_to s.before s.instr q) (rw falls (under_new n (incoming kind code k q)))
        | inr jumps ↦ rw jumps (under_new n (add_note (incoming kind code k q) (next_note_to k s.before s.instr q)))
      ])

  -- and no weaker than a note that is no stronger than each note that was sent
  over_edge : (l : Note) (old new : Option Note) → IfSome old (IsNoStronger l) → IfSome new (IsNoStronger l) → IfSome (add_note old new) (IsNoStronger l)
  over_edge l old None h k = h
  over_edge l None (Some n) h k = join_most l n n k k
  over_edge l (Some m) (Some n) h k = join_most l m n h k

  over_sent : (l : Note) → ((n : Note) → IsSent kind code q n → IsNoStronger l n) → (k : ℕ) → k ≤ q → IfSome (incoming kind code k q) (IsNoStronger l)
  over_sent l h zero le = at (nat_eq q 0) refl
    where
      at : (b : Bool) → nat_eq q 0 ≡ b → IfSome (if_here b (Some (entry kind))) (IsNoStronger l)
      at true e = h (entry kind) (inl (eqb-true q 0 e, refl))
      at false e = tt
  over_sent l h (suc k) le = at (over_sent l h k (omega arith)) (note_at kind code k) (slice_get code k) refl refl
    where
      edge : (m : Note) (i : Instr) → note_at kind code k ≡ Some m → slice_get code k ≡ Some i → (o : Option Note) →
          ((n : Note) → o ≡ Some n → (next_note_to k m i q ≡ Some n) ⊎ (jump_note_to m i q ≡ Some n)) → IfSome o (IsNoStronger l)
      edge m i em ei None s = tt
      edge m i em ei (Some n) s = h n (inr (k, le, record { before = m; instr = i; before_is = em; instr_is = ei; sent = s n refl }))

      at : IfSome (incoming kind code k q) (IsNoStronger l) → (note : Option Note) (i : Option Instr) → note_at kind code k ≡ note → slice_get code k ≡ i → IfSome (add_notes k note i q (incoming kind code k q)) (IsNoStronger l)
      at so_far None i em ei = so_far
      at so_far (Some m) None em ei = so_far
      at so_far (Some m) (Some i) em ei =
          over_edge l (add_note (incoming kind code k q) (next_note_to k m i q)) (jump_note_to m i q)
          (over_edge l (incoming kind code k q) (next_note_to k m i q) so_far (edge m i em ei (next_note_to k m i q) (λ n e. inl e)))
          (edge m i em ei (jump_note_to m i q) (λ n e. inr e))

  at_most : (note sent : Note) → note_at kind code q ≡ Some note → Under sent (note_at kind code q) → IsNoStronger note sent
  at_most note sent e (m, f, h) = subst (λ z. IsNoStronger z sent) (some_is m note (sym f) e) h
    where
      some_is : (a b : Note) → Some a ≡ note_at kind code q → note_at kind code q ≡ Some b → a ≡ b
      some_is a b x y = cc (x, y)

  pub no_stronger : (note sent : Note) → note_at kind code q ≡ Some note → IsSent kind code q sent → IsNoStronger note sent
  no_stronger note sent e (inl (z, s)) = at_most note sent e (subst (λ n. Under n (note_at kind code q)) (sym s) (under_start q z))
  no_stronger note sent e (inr (p, lt, s)) = at_most note sent e (under_sent q p sent lt s)

  pub strongest : (note other : Note) → note_at kind code q ≡ Some note → ((n : Note) → IsSent kind code q n → IsNoStronger other n) → IsNoStronger other note
  strongest note other e h = subst (λ o. IfSome o (IsNoStronger other)) e (over_sent other h q (omega arith))
