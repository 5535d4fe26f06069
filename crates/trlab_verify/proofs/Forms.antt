-- The tests of a table in its form, and their consequences.
use Rattle.std.proofs.Common.{◌≡◌, ℕ, suc, ◌<◌, ◌≤◌, ap, refl, sym, subst, List, length, Option, Some, None}
use Rattle.std.proofs.Common.{◌∙◌, get_or, slice_get, IfSome}
use Rattle.trlab_code.specs.declared.{program.Kind.Kind, instruction.{Instr.Instr, Input.Input}}
use Rattle.trlab_code.specs.{declared.instruction.Variable.Variable, Flow.target}
use Rattle.trlab_code.specs.Machine.{variable_number, register_number}
use Rattle.trlab_code.specs.declared.instruction.Variable.TheVariants as variable
use Rattle.trlab_notes.specs.Notes.{Note, level_between, known_level, same_variable, entry, entry_values}
use Rattle.trlab_notes.specs.Notes.{entry_level, closure, maybe_closure, IsNoStronger}
use Rattle.trlab_notes.specs.{Transfer.{next_note, jump_note}, Reasons.reason_against}
use Rattle.trlab_notes.specs.Rows.{AreValidLevels, known_level_from, level_at, levels_in, value_in}
use Rattle.trlab_notes.specs.declared.note.AbstractValue.{AbstractValue, TheVariants.Unknown}
use Rattle.trlab_notes.proofs.{Variables.{below, register_below, at_numbers}, Order.through}
use Rattle.trlab_notes.proofs.Closure.{settled_less, settled_more, said_same, side_same, fall_settled}
use Rattle.trlab_notes.proofs.{Closure.jump_settled, Tables.{note_same, level_same, known_unfolds}}
use mathlib.Core.Path.{fun_ext}
use Rattle.trlab_verify.specs.{Verdict.Follows, declared.note.{Note.Note as Form, Mark.TheVariants.Unset}}
use Rattle.trlab_verify.specs.Tables.{mark_value, form_value, meaning, HasValidLevels, ChecksAt}
use Rattle.trlab_verify.proofs.Verdicts.{reason_same}

-- the facts that a table checks at pc, with the note there named
pub record Shown (kind : Kind) (code : List Instr) (len : ℕ) (note : ℕ → Note) (pc : ℕ) (m : Note) (i : Instr) : Type 0 where
  pub reached : 0 < pc → (p : ℕ) × Follows code p pc
  pub clear : reason_against kind kind (length code) pc m i ≡ None
  pub falls : suc pc < len → IfSome (next_note m i) (IsNoStronger (note (suc pc)))
  pub jumps : (t : ℕ) → target i ≡ Some t → t < len → IsNoStronger (note t) (jump_note m i)

-- the levels of the note that a form means are those of its variables and its table
module _ (kind : Kind) (form : Form) (values : List AbstractValue) (h : (x : Variable) → value_in values x ≡ form_value kind form x) where
  form_known : (x y : Variable) → known_level (meaning kind form) x y ≡ known_level_from values (variable_number x) (variable_number y) (level_at form.levels (variable_number x) (variable_number y))
  form_known x y =
      known_unfolds (meaning kind form) x y
      ∙ (λ i. level_between (sym (h x) i) (sym (h y) i) (same_variable x y) (level_at form.levels (variable_number x) (variable_number y)))

  pub levels_below : HasValidLevels (meaning kind form) → AreValidLevels values form.levels
  levels_below f x y lx ly =
      at_numbers (λ a. known_level_from values a y (level_at form.levels a y) ≤ 2)
      (λ p. at_numbers (λ b. known_level_from values (variable_number p) b (level_at form.levels (variable_number p) b) ≤ 2) (λ q. subst (λ k. k ≤ 2) (form_known p q) (f p q)) y ly) x lx

  pub levels_above : AreValidLevels values form.levels → HasValidLevels (meaning kind form)
  levels_above f x y = subst (λ k. k ≤ 2) (sym (form_known x y)) (f (variable_number x) (variable_number y) (below x) (below y))

  -- the note that is stored is the closure of the note that the form means
  pub read_is : closure (record { values = value_in values; level = levels_in form.levels; side = form.side }) ≡ closure (meaning kind form)
  read_is = ap closure (note_same (record { values = value_in values; level = levels_in form.levels; side = form.side }) (meaning kind form) (fun_ext h) refl refl)

-- the abstract values of a form, by the numbers of the variables
pub form_says : (kind : Kind) (form : Form) (values : List AbstractValue) → ((x : ℕ) → x < 8 → mark_value (get_or form.regs x Unset) ≡ get_or values x Unknown) →
    ((k : Input) → value_in values (variable.Input k) ≡ entry_values kind (variable.Input k)) → (x : Variable) → form_value kind form x ≡ value_in values x
form_says kind form values h k (variable.Register r) = h (register_number r) (register_below r)
form_says kind form values h k (variable.Input i) = sym (k i)

-- the first note has the levels of the start
pub first_is : (kind : Kind) (form : Form) (levels : List (List ℕ)) → meaning kind form ≡ closure (entry kind) →
    ((x y : Variable) → levels_in levels x y ≡ entry_level x y) → meaning kind (record form { levels = levels }) ≡ entry kind
unfolding entry
first_is kind form levels e h =
    note_same _ _ (ap (λ n. n.values) e ∙ said_same (entry kind)) (level_same _ _ h) (ap (λ n. n.side) e ∙ side_same (entry kind))

-- no stronger than a closure
pub under_settled : (l n : Note) → IsNoStronger l (closure n) → IsNoStronger l n
under_settled l n h = through l (closure n) n h (settled_less n)

pub under_note : (l n : Note) → IsNoStronger l n → IsNoStronger l (closure n)
under_note l n h = through l n (closure n) h (settled_more n)

pub over_settled : (m n : Note) → IsNoStronger (closure m) n → IsNoStronger m n
over_settled m n h = through m (closure m) n (settled_more m) h

pub over_note : (m n : Note) → IsNoStronger m n → IsNoStronger (closure m) n
over_note m n h = through (closure m) m n (settled_less m) h

-- the same for a note that may be missing
pub sent_same : (l : Note) (d e : Option Note) → maybe_closure d ≡ maybe_closure e → IfSome d (IsNoStronger l) → IfSome e (IsNoStronger l)
sent_same l None None h f = tt
sent_same l None (Some n) h f = absurd (cc h)
sent_same l (Some m) None h f = absurd (cc h)
sent_same l (Some m) (Some n) h f =
    under_settled l n (subst (IsNoStronger l) (some_is (closure m) (closure n) h) (under_note l m f))
  where
    some_is : (a b : Note) → Some a ≡ Some b → a ≡ b
    some_is a b e = cc e

-- if a form's note is no stronger than the closure of a sent note, it is no stronger than the note
pub sent_in : (l : Note) (o : Option Note) (n : Note) → Some n ≡ maybe_closure o → IsNoStronger l n → IfSome o (IsNoStronger l)
sent_in l None n h f = absurd (cc h)
sent_in l (Some m) n h f = under_settled l m (subst (IsNoStronger l) (some_noted n (closure m) h) f)
  where
    some_noted : (a b : Note) → Some a ≡ Some b → a ≡ b
    some_noted a b e = cc e

pub sent_out : (l : Note) (o : Option Note) (n : Note) → Some n ≡ maybe_closure o → IfSome o (IsNoStronger l) → IsNoStronger l n
sent_out l None n h f = absurd (cc h)
sent_out l (Some m) n h f = subst (IsNoStronger l) (sym (some_noted n (closure m) h)) (under_note l m f)
  where
    some_noted : (a b : Note) → Some a ≡ Some b → a ≡ b
    some_noted a b e = cc e

pub jump_same : (l m : Note) (i : Instr) → IsNoStronger l (jump_note (closure m) i) → IsNoStronger l (jump_note m i)
jump_same l m i h = under_settled l (jump_note m i) (subst (IsNoStronger l) (jump_settled m i) (under_note l (jump_note (closure m) i) h))

pub jump_back : (l m : Note) (i : Instr) → IsNoStronger l (jump_note m i) → IsNoStronger l (jump_note (closure m) i)
jump_back l m i h = under_settled l (jump_note (closure m) i) (subst (IsNoStronger l) (sym (jump_settled m i)) (under_note l (jump_note m i) h))

module _ (kind : Kind) (code : List Instr) (len : ℕ) (note : ℕ → Note) (pc : ℕ) (m : Note) (i : Instr) (el : len ≡ length code) (em : m ≡ closure (note pc)) (ei : slice_get code pc ≡ Some i) where
  pub shown : ((j : Instr) → slice_get code pc ≡ Some j → ChecksAt kind (record { kind = kind; instrs = code }) note pc j) →
      Shown kind code len note pc m i
  shown h =
      let c = h i ei in
      let f = fall_settled (note pc) i in
      record {
        reached = c.reached;
        clear = sym (reason_same kind kind (length code) pc (note pc) m i em) ∙ c.clear;
        falls = λ lt. subst (λ z. IfSome (next_note z i) (IsNoStronger (note (suc pc)))) (sym em) (sent_same (note (suc pc)) (next_note (note pc) i) (next_note (closure (note pc)) i) (sym f) (c.falls (subst (λ z. suc pc < z) el lt)));
        jumps = λ t et lt. subst (λ z. IsNoStronger (note t) (jump_note z i)) (sym em) (jump_back (note t) (note pc) i (c.jumps t et (subst (λ z. t < z) el lt)));
      }

  pub checked_at : Shown kind code len note pc m i → (j : Instr) → slice_get code pc ≡ Some j →
      ChecksAt kind (record { kind = kind; instrs = code }) note pc j
  checked_at s j ej =
      let same : i ≡ j = some_is i j (sym ei ∙ ej) in
      subst (λ z. ChecksAt kind (record { kind = kind; instrs = code }) note pc z) same (record {
        reached = s.reached;
        clear = reason_same kind kind (length code) pc (note pc) m i em ∙ s.clear;
        falls = λ lt. sent_same (note (suc pc)) (next_note (closure (note pc)) i) (next_note (note pc) i) (fall_settled (note pc) i) (subst (λ z. IfSome (next_note z i) (IsNoStronger (note (suc pc)))) em (s.falls (subst (λ z. suc pc < z) (sym el) lt)));
        jumps = λ t et lt. jump_same (note t) (note pc) i (subst (λ z. IsNoStronger (note t) (jump_note z i)) em (s.jumps t et (subst (λ z. t < z) (sym el) lt)));
      })
    where
      some_is : (a b : Instr) → Some a ≡ Some b → a ≡ b
      some_is a b e = cc e
