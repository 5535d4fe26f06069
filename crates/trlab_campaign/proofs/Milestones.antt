-- Percentages of some work: at most 100, never smaller if more parts are done, and 100 if no part is left.
use Rattle.std.proofs.Common.{◌≡◌, ℕ, ◌*◌, ◌/◌, ◌<◌, ◌≤◌, refl, sym, ap, arith, inl, inr, Bool, true, false}
use Rattle.std.proofs.Common.{cond, nat_le, le-leb, leb-false, div-mul-le_self}
use Rattle.std.proofs.{lemmas.{Bool.{cases_lt, lt-leb}, Nat.le-div}, Math.Nat.div-le_of_le-mul}
use Rattle.trlab_campaign.specs.Ending.{percent_done}

at_most_all : (done whole : ℕ) (b : Bool) → nat_le whole done ≡ b → cond b 100 (done * 100 / whole) ≤ 100
at_most_all done whole true is = omega arith
at_most_all done whole false is =
    let below = leb-false whole done is in
    div-le_of_le-mul whole (omega (arith, below))

few : (done whole : ℕ) → percent_done done whole ≤ 100
few done whole = at_most_all done whole (nat_le whole done) refl

-- parts of a work that has more of them
part_of : (before after whole : ℕ) → before ≤ after → after < whole → before * 100 / whole ≤ after * 100 / whole
part_of before after whole rises left =
    let shares = div-mul-le_self (before * 100) whole in
    le-div (before * 100 / whole) (after * 100) whole (omega (arith, left)) (omega (arith, shares, rises))

rises_by : (before after whole : ℕ) (b : Bool) → nat_le whole after ≡ b → before ≤ after → percent_done before whole ≤ cond b 100 (after * 100 / whole)
rises_by before after whole true is rises = few before whole
rises_by before after whole false is rises =
    let left = leb-false whole after is in
    rw (lt-leb whole before (omega (arith, left, rises))) (part_of before after whole rises left)

no_fewer : (before after whole : ℕ) → before ≤ after → percent_done before whole ≤ percent_done after whole
no_fewer before after whole rises = rises_by before after whole (nat_le whole after) refl rises

all_done : (before after whole : ℕ) → before ≤ after → whole ≤ before → percent_done before whole ≡ percent_done after whole
all_done before after whole rises done = rw (le-leb whole before done, le-leb whole after (omega (arith, rises, done))) refl

-- if another percentage is reached, there is one, it is at most the last, and some part was left to be done
pub record IsReached (before after whole : ℕ) : Type 0 where
  pub some : 1 ≤ percent_done after whole
  pub few : percent_done after whole ≤ 100
  pub more : before < after
  pub left : before < whole

pub is_reached : (before after whole : ℕ) → before ≤ after → (percent_done after whole ≡ percent_done before whole → ⊥) → IsReached before after whole
is_reached before after whole rises other =
    let most = no_fewer before after whole rises in
    record {
      some = omega (arith, most, other);
      few = few after whole;
      more = elim (cases_lt before after) [
        | inl more ↦ more
        | inr done ↦ let same : after ≡ before = omega (arith, rises, done) in absurd (other (ap (λ n. percent_done n whole) same))
      ];
      left = elim (cases_lt before whole) [
        | inl left ↦ left
        | inr done ↦ absurd (other (sym (all_done before after whole rises done)))
      ];
    }
