use Rattle.std.proofs.Common.{◌≡◌, ◌∙◌, ◌+◌, ◌<◌, ℕ, Bool, true, false, List, Option, Some, None, length}
use Rattle.std.proofs.Common.{nat_eq, get_or, refl, ap, sym, arith, [], ◌∷◌, ◌++◌, length-append, eqb-true}
use Rattle.std.proofs.lemmas.{Bool.eqb-false, List.{get_or_default, get_or_push}}
use Rattle.trlab_code.specs.declared.program.Kind.{Kind}
use Rattle.trlab_notes.specs.{Notes.{Note, entry}, Stored.{stored_note_at, maybe_note}}
use Rattle.trlab_verify.specs.{declared.note.Note.Note as Form, Tables.{meaning, meaning_at}}
use Rattle.trlab_verify.{specs.Tables.form_without_marks, proofs.Inputs.{same_shown, never_none}}
use Rattle.trlab_verify.proofs.table.write_all.Goals as goal

pub write_at-requires : goal.write_at-requires
write_at-requires c =
    let h = c.requires c.loop-pc.pc c.loop-pc-test.true in
    same_shown c.args.kind (get_or c.args.stored.now c.loop-pc.pc None) c.in-Some.note h.0 (get_or_default c.args.stored.now c.loop-pc.pc None _ c.loop-pc-test.true ∙ c.in-Some.is) h.1 h.2

pub unreachable-requires : goal.unreachable-requires
unreachable-requires c =
    let h = c.requires c.loop-pc.pc c.loop-pc-test.true in
    never_none (get_or c.args.stored.now c.loop-pc.pc None) h.0 (get_or_default c.args.stored.now c.loop-pc.pc None _ c.loop-pc-test.true ∙ c.in-None.is) h.1

length_pushed : (notes : List Form) (note : Form) (n : ℕ) → length notes ≡ n → length (notes ++ note ∷ []) ≡ n + 1
length_pushed notes note n e = omega (arith, length-append {A = Form}, e)

-- one more note is appended
module _ (kind : Kind) (stored : ℕ → Option Note) (old new : List Form) (note : Form) (pc : ℕ)
    (same : (k : ℕ) → k < pc → get_or new k form_without_marks ≡ get_or old k form_without_marks) (here : get_or new pc form_without_marks ≡ note) where
  first_by : (is_first : Bool) → nat_eq pc 0 ≡ is_first → (0 < pc → meaning_at kind old 0 ≡ entry kind) → (pc ≡ 0 → meaning kind note ≡ entry kind) →
      meaning_at kind new 0 ≡ entry kind
  first_by true e before now = let zero_pc : pc ≡ 0 = eqb-true pc 0 e in ap (meaning kind) (rw zero_pc at here) ∙ now zero_pc
  first_by false e before now = let other = eqb-false pc 0 e in let above : 0 < pc = omega (arith, other) in ap (meaning kind) (same 0 above) ∙ before above

  later_by : (k : ℕ) (is_here : Bool) → nat_eq k pc ≡ is_here → k < pc + 1 → 0 < k → (k < pc → stored k ≡ Some (meaning_at kind old k)) →
      (0 < pc → stored pc ≡ Some (meaning kind note)) → stored k ≡ Some (meaning_at kind new k)
  later_by k true e lt above before now =
      let at_pc : k ≡ pc = eqb-true k pc e in
      rw at_pc (now (omega (arith, at_pc, above)) ∙ ap (λ n. Some (meaning kind n)) (sym here))
  later_by k false e lt above before now =
      let other = eqb-false k pc e in
      let inside : k < pc = omega (arith, other, lt) in
      before inside ∙ ap (λ n. Some (meaning kind n)) (sym (same k inside))

pub loop-pc-preserved : goal.loop-pc-preserved
loop-pc-preserved c =
    let l = c.loop-pc.invariant in
    let e = c.in_ok-push-in-Some.ensures in
    let pc = c.loop-pc.pc in
    let old = c.loop-pc.notes.items in
    let new = c.push.new.self.items in
    let note = c.write_at.result in
    let stored : ℕ → _ = λ (k : ℕ). stored_note_at c.args.stored.now k in
    let same : (k : ℕ) → k < pc → get_or new k form_without_marks ≡ get_or old k form_without_marks = λ k lt. e.by_index.0 k form_without_marks (omega (arith, lt)) in
    let at : length old ≡ pc = l.all in
    let here : get_or new pc form_without_marks ≡ note = rw e.items (get_or_push old note form_without_marks pc at) in
    record {
      all = rw e.items (length_pushed old note pc at);
      first = λ _. first_by c.args.kind stored old new note pc same here (nat_eq pc 0) refl l.first c.write_at.ensures.first;
      later = λ k above lt. later_by c.args.kind stored old new note pc same here k (nat_eq k pc) refl lt above (λ lt. l.later k above lt)
          (λ above. ap maybe_note (get_or_default c.args.stored.now pc None _ c.loop-pc-test.true ∙ c.in-Some.is) ∙ ap Some (sym (c.write_at.ensures.later above)));
    }
