use Rattle.std.proofs.Common.{◌≡◌, ℕ, List, ◌++◌, append_assoc, Result, Ok, Err, OnOk, is_ok, if◌then◌else◌}
use Rattle.trlab_asm.specs.Names.{register_text, input_text}
use Rattle.trlab_asm.proofs.printing.push_operand.Goals as goal

-- a text was put after a list and a prefix
put : {E : Type 0} (r : Result (Unit {0}) E) (new mid old prefix text : List ℕ) → mid ≡ old ++ prefix → OnOk r (new ≡ mid ++ text) → OnOk r (new ≡ old ++ (prefix ++ text))
put (Ok x) new mid old prefix text m p = rw (p, m) (append_assoc old prefix text)
put (Err e) new mid old prefix text m p = tt

pushed : {E : Type 0} (r : Result (Unit {0}) E) (new mid old prefix more text : List ℕ) → mid ≡ old ++ prefix → more ≡ text → new ≡ (if is_ok r then mid ++ more else mid)
    → OnOk r (new ≡ old ++ (prefix ++ text))
pushed (Ok x) new mid old prefix more text m q p = rw (p, q, m) (append_assoc old prefix text)
pushed (Err e) new mid old prefix more text m q p = tt

pub returns-in-Register : goal.returns-in-Register
returns-in-Register c =
    rw c.in-Register.is
    (pushed c.extend_from_slice-in-Register.result _ c.extend_from_slice.new.self.items c.args.out.now.items c.args.prefix.now c.register_text.result.now (register_text c.in-Register.register)
    c.in_ok-extend_from_slice.ensures.items c.register_text.ensures c.extend_from_slice-in-Register.ensures.items)

pub returns-in-Input : goal.returns-in-Input
returns-in-Input c =
    rw c.in-Input.is
    (pushed c.extend_from_slice-in-Input.result _ c.extend_from_slice.new.self.items c.args.out.now.items c.args.prefix.now c.input_text.result.now (input_text c.in-Input.input)
    c.in_ok-extend_from_slice.ensures.items c.input_text.ensures c.extend_from_slice-in-Input.ensures.items)

pub returns-in-Number : goal.returns-in-Number
returns-in-Number c =
    rw c.in-Number.is
    (put c.push_number.result _ c.extend_from_slice.new.self.items c.args.out.now.items c.args.prefix.now _ c.in_ok-extend_from_slice.ensures.items c.push_number.ensures)

pub returns-in-Label : goal.returns-in-Label
returns-in-Label c =
    rw c.in-Label.is
    (put c.push_number-in-Label.result _ c.extend_from_slice.new.self.items c.args.out.now.items c.args.prefix.now _ c.in_ok-extend_from_slice.ensures.items c.push_number-in-Label.ensures)

pub returns-in-Beyond : goal.returns-in-Beyond
returns-in-Beyond c =
    rw c.in-Beyond.is
    (put c.push_number-in-Beyond.result _ c.extend_from_slice.new.self.items c.args.out.now.items c.args.prefix.now _ c.in_ok-extend_from_slice.ensures.items c.push_number-in-Beyond.ensures)
