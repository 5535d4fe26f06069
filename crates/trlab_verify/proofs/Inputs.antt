-- The notes have the same ranges of the inputs as the entry note.
use Rattle.std.proofs.Common.{◌≡◌, ℕ, zero, suc, ◌+◌, ◌<◌, min, max, refl, sym, subst, arith, List, Bool}
use Rattle.std.proofs.Common.{true, false, Option, Some, None, nat_eq, slice_get, IfSome}
use Rattle.trlab_code.specs.{declared.program.Kind.Kind, Flow.{target, destination}}
use Rattle.trlab_code.specs.declared.instruction.{Input.Input, Instr.Instr, Register.Register}
use Rattle.trlab_code.specs.declared.instruction.Input.TheVariants.{Speed, Limit, Gap, SideGap, SideBack}
use Rattle.trlab_code.specs.declared.instruction.{Input.TheVariants.{Lane, Headspeed}, Variable.Variable}
use Rattle.trlab_code.specs.declared.instruction.Instr.TheVariants.{JumpLess, JumpAtMost, JumpTrue, JumpFalse}
use Rattle.trlab_code.specs.Machine.{update, register_number, input_number, allows_input}
use Rattle.trlab_code.specs.declared.instruction.Variable.TheVariants as variable
use Rattle.trlab_notes.specs.declared.note.AbstractValue.{AbstractValue, TheVariants.{Unknown, Between}}
use Rattle.trlab_notes.specs.declared.{note.AbstractValue.TheVariants.Implies, rows.StoredNote.StoredNote}
use Rattle.trlab_notes.specs.Notes.{Note, with_side, value_with_side, entry, entry_values, input_range}
use Rattle.trlab_notes.specs.{Notes.{closure, join, join_values}, Reasons.is_flag, Stored.note_of}
use Rattle.trlab_notes.specs.{Stored.maybe_note, Transfer.{assign, assign_destination, assign_result}}
use Rattle.trlab_notes.specs.Transfer.{refine_order, refine_flag, next_note, jump_note}
use Rattle.trlab_notes.proofs.Variables.{register_below}
use Rattle.trlab_verify.specs.Verdict.{add_note, add_notes, if_here, next_note_to, jump_note_to, is_target}
use Rattle.trlab_verify.specs.{Verdict.incoming, Tables.HasInputRanges}

-- no input is a flag
range_plain : (k : Input) → is_flag (input_range k) ≡ false
range_plain Speed = refl
range_plain Limit = refl
range_plain Gap = refl
range_plain SideGap = refl
range_plain SideBack = refl
range_plain Lane = refl
range_plain Headspeed = refl

plain : (kind : Kind) (k : Input) (b : Bool) → allows_input kind k ≡ b → is_flag (entry_values kind (variable.Input k)) ≡ false
plain kind k true e = rw e (range_plain k)
plain kind k false e = rw e refl

same_range : (a c b d : ℕ) → a ≡ c → b ≡ d → Between a b ≡ Between c d
same_range a c b d e f = cc

both_same : (p q : Bool) (r s t : AbstractValue) → is_flag r ≡ false → s ≡ r → t ≡ r → join_values (with_side p s) (with_side q t) ≡ r
both_same p q r s t f es et = rw (es, et) (at r f)
  where
    at : (r : AbstractValue) → is_flag r ≡ false → join_values (with_side p r) (with_side q r) ≡ r
    at Unknown f = refl
    at (Between a b) f = same_range (min a a) a (max b b) b (omega arith) (omega arith)
    at (Implies i) f = absurd (cc f)

module _ (kind : Kind) where
  assign_shows : (m : Note) (d : Register) (i : Instr) → HasInputRanges kind m → HasInputRanges kind (assign_result m d i)
  unfolding assign update
  assign_shows m d i f k =
      let l : register_number d < 8 = register_below d in
      let e : nat_eq (8 + input_number k) (register_number d) ≡ false = grind (arith, l) in
      rw e (f k)

  refine_shows : (m : Note) (p q : Variable) (k : ℕ) → HasInputRanges kind m → HasInputRanges kind (refine_order m p q k)
  unfolding refine_order
  refine_shows m p q k f = f

  flag_shows : (m : Note) (a : Register) → HasInputRanges kind m → HasInputRanges kind (refine_flag m a)
  unfolding refine_flag
  flag_shows m a f = f

  any_shows : (m : Note) (i : Instr) (d : Option Register) → HasInputRanges kind m → IfSome (assign_destination m i d) (HasInputRanges kind)
  any_shows m i None f = tt
  any_shows m i (Some d) f = assign_shows m d i f

  next_shows : (m : Note) (i : Instr) → HasInputRanges kind m → IfSome (next_note m i) (HasInputRanges kind)
  next_shows m (JumpLess a b t) f = refine_shows m (variable.Register b) (variable.Register a) 1 f
  next_shows m (JumpAtMost a b t) f = refine_shows m (variable.Register b) (variable.Register a) 2 f
  next_shows m (JumpTrue a t) f = f
  next_shows m (JumpFalse a t) f = flag_shows m a f
  next_shows m i f = any_shows m i (destination i) f

  jump_shows : (m : Note) (i : Instr) → HasInputRanges kind m → HasInputRanges kind (jump_note m i)
  jump_shows m (JumpLess a b t) f = refine_shows m (variable.Register a) (variable.Register b) 2 f
  jump_shows m (JumpAtMost a b t) f = refine_shows m (variable.Register a) (variable.Register b) 1 f
  jump_shows m (JumpTrue a t) f = flag_shows m a f
  jump_shows m i f = f

  join_shows : (m n : Note) → HasInputRanges kind m → HasInputRanges kind n → HasInputRanges kind (join m n)
  unfolding join value_with_side
  join_shows m n f g k = both_same m.side n.side (entry_values kind (variable.Input k)) (m.values (variable.Input k)) (n.values (variable.Input k)) (plain kind k (allows_input kind k) refl) (f k) (g k)

  edge_shows : (old new : Option Note) → IfSome old (HasInputRanges kind) → IfSome new (HasInputRanges kind) → IfSome (add_note old new) (HasInputRanges kind)
  edge_shows old None f g = f
  edge_shows None (Some n) f g = join_shows n n g g
  edge_shows (Some m) (Some n) f g = join_shows m n f g

  here_shows : (b : Bool) (o : Option Note) → IfSome o (HasInputRanges kind) → IfSome (if_here b o) (HasInputRanges kind)
  here_shows true o f = f
  here_shows false o f = tt

  edges_show : (pc q : ℕ) (note : Option Note) (i : Option Instr) (old : Option Note) → IfSome note (HasInputRanges kind) → IfSome old (HasInputRanges kind) →
      IfSome (add_notes pc note i q old) (HasInputRanges kind)
  edges_show pc q (Some m) (Some i) old f g =
      edge_shows (add_note old (next_note_to pc m i q)) (jump_note_to m i q) (edge_shows old (next_note_to pc m i q) g (here_shows (nat_eq q (suc pc)) (next_note m i) (next_shows m i f))) (here_shows (is_target (target i) q) (Some (jump_note m i)) (jump_shows m i f))
  edges_show pc q None i old f g = g
  edges_show pc q (Some m) None old f g = g

  pub entry_shows : HasInputRanges kind (entry kind)
  unfolding entry
  entry_shows k = refl

  pub incoming_shows : (code : List Instr) (n q : ℕ) → IfSome (incoming kind code n q) (HasInputRanges kind)
  incoming_shows code zero q = here_shows (nat_eq q 0) (Some (entry kind)) entry_shows
  incoming_shows code (suc n) q = edges_show n q (incoming kind code n n) (slice_get code n) (incoming kind code n q) (incoming_shows code n n) (incoming_shows code n q)

pub closure_shows : (kind : Kind) (m : Note) → HasInputRanges kind m → HasInputRanges kind (closure m)
unfolding closure
closure_shows kind m h = h

pub same_shown : (kind : Kind) (o : Option StoredNote) (n : StoredNote) (m : Note) → o ≡ Some n → maybe_note o ≡ Some m → HasInputRanges kind m → HasInputRanges kind (note_of n)
same_shown kind None n m e f h = absurd (cc e)
same_shown kind (Some k) n m e f h =
    let a : k ≡ n = some_noted k n e in
    let b : note_of k ≡ m = some_note (note_of k) m f in
    subst (λ z. HasInputRanges kind (note_of z)) a (subst (λ z. HasInputRanges kind z) (sym b) h)
  where
    some_noted : (a b : StoredNote) → Some a ≡ Some b → a ≡ b
    some_noted a b e = cc e

    some_note : (a b : Note) → Some a ≡ Some b → a ≡ b
    some_note a b e = cc e

pub never_none : (o : Option StoredNote) (m : Note) → o ≡ None → maybe_note o ≡ Some m → ⊥
never_none None m e f = absurd (cc f)
never_none (Some n) m e f = absurd (cc e)
