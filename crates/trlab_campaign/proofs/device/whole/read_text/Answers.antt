use Rattle.std.proofs.Common.{◌≡◌, ◌<◌, ◌++◌, ◌∙◌, take, arith, refl, sym, ap, append-nil, length}
use Rattle.std.proofs.{Common.{length-append, length-take}, lemmas.{List.take-append-le, Bool.{false≢true}}}
use Rattle.std.proofs.Math.Bool.{or-false}
use Rattle.trlab_bounds.specs.declared.texts.TheConstants.{TEXT_LIMIT}
use Rattle.trlab_campaign.proofs.KnownBytes.{consumes_more, consumes_none, consumes_kept, consumes_last}
use Rattle.trlab_campaign.proofs.KnownBytes.{given_last, given_more, given_more_none, read_over, read_whole}
use Rattle.trlab_campaign.proofs.device.whole.read_text.Goals as goal

pub loop-piece-init : goal.loop-piece-init
loop-piece-init g c = record { read = rw c.new-text.ensures.items (consumes_none _); small = omega (arith, c.new-text.ensures.len); given = rw c.new-text.ensures.items (sym (append-nil _)); works = c.requires }

pub loop-piece-preserved : goal.loop-piece-preserved
loop-piece-preserved g c =
    let added : c.extend_from_slice.new.self.items ≡ c.loop-piece.text.items ++ take c.in-Ok.count c.take.new.buffer = grind (arith, take-append-le, c.if-is_err.ensures.negation, c.extend_from_slice.ensures.items) in
    let all = ap length added ∙ length-append c.loop-piece.text.items (take c.in-Ok.count c.take.new.buffer) in
    record {
      read = rw added (consumes_more _ _ _ _ _ c.loop-piece.invariant.read c.in-Ok.ensures.bytes.0);
      small = omega (arith, all, length-take c.in-Ok.count c.take.new.buffer, length-take c.min-room.result c.loop-piece.piece);
      given = rw added (given_more _ _ _ _ _ c.loop-piece.invariant.given c.in-Ok.ensures.gives);
      works = c.in-Ok.ensures.fails ∙ (or-false _ ∙ c.loop-piece.invariant.works);
    }

pub returns-clause-read : goal.returns-clause-read
returns-clause-read g c = (c.loop-piece.text.items, omega arith, c.loop-piece.invariant.read)

pub returns-clause-fails : goal.returns-clause-fails
returns-clause-fails g c = tt

pub returns-in-Err-clause-read : goal.returns-in-Err-clause-read
returns-in-Err-clause-read g c = (c.loop-piece.text.items, omega arith, consumes_kept _ _ _ _ c.loop-piece.invariant.read c.in-Err.ensures.bytes)

pub returns-in-Err-clause-fails : goal.returns-in-Err-clause-fails
returns-in-Err-clause-fails g c = (λ _. refl, λ _. rw c.loop-piece.invariant.works at c.in-Err.ensures.fails)

pub returns-then-is_err-clause-read : goal.returns-then-is_err-clause-read
returns-then-is_err-clause-read g c =
    (c.loop-piece.text.items ++ take c.in-Ok.count c.take.new.buffer, grind (arith, length-append, length-take), consumes_more _ _ _ _ _ c.loop-piece.invariant.read c.in-Ok.ensures.bytes.0)

pub returns-then-is_err-clause-fails : goal.returns-then-is_err-clause-fails
returns-then-is_err-clause-fails g c =
    (λ failed. absurd (false≢true (sym (c.in-Ok.ensures.fails ∙ (or-false _ ∙ c.loop-piece.invariant.works)) ∙ failed)), λ e. absurd (cc))

pub returns-then-count-eq0-clause-works : goal.returns-then-count-eq0-clause-works
returns-then-count-eq0-clause-works g c = c.in-Ok.ensures.fails ∙ (or-false _ ∙ c.loop-piece.invariant.works)

pub returns-in-Err-clause-text : goal.returns-in-Err-clause-text
returns-in-Err-clause-text g c = tt

pub returns-in-Err-clause-works : goal.returns-in-Err-clause-works
returns-in-Err-clause-works g c = tt

pub returns-then-is_err-clause-text : goal.returns-then-is_err-clause-text
returns-then-is_err-clause-text g c = tt

pub returns-then-is_err-clause-works : goal.returns-then-is_err-clause-works
returns-then-is_err-clause-works g c = tt

pub returns-clause-text : goal.returns-clause-text
returns-clause-text g c = read_over _ _ c.loop-piece.text.items (omega arith) c.loop-piece.invariant.read

pub returns-clause-works : goal.returns-clause-works
returns-clause-works g c = c.loop-piece.invariant.works

pub returns-then-count-eq0-clause-text : goal.returns-then-count-eq0-clause-text
returns-then-count-eq0-clause-text g c =
    read_whole _ _ c.loop-piece.text.items (consumes_last _ _ _ c.loop-piece.text.items c.take.new.buffer c.in-Ok.count c.if-count-eq0.true c.loop-piece.invariant.read c.in-Ok.ensures.bytes.0)
    (c.in-Ok.ensures.bytes.1 c.if-count-eq0.true (omega (arith, length-take c.min-room.result c.loop-piece.piece)))

pub returns-then-count-eq0-clause-read : goal.returns-then-count-eq0-clause-read
returns-then-count-eq0-clause-read g c =
    (c.loop-piece.text.items, omega (arith, c.loop-piece.invariant.small), consumes_last _ _ _ c.loop-piece.text.items c.take.new.buffer c.in-Ok.count c.if-count-eq0.true c.loop-piece.invariant.read c.in-Ok.ensures.bytes.0)

pub returns-then-count-eq0-clause-fails : goal.returns-then-count-eq0-clause-fails
returns-then-count-eq0-clause-fails g c = tt

pub returns-clause-whole : goal.returns-clause-whole
returns-clause-whole g c =
    let over : TEXT_LIMIT < length c.loop-piece.text.items = omega arith in
    λ small. absurd (omega (arith, over, small))

pub returns-in-Err-clause-whole : goal.returns-in-Err-clause-whole
returns-in-Err-clause-whole g c = tt

pub returns-then-is_err-clause-whole : goal.returns-then-is_err-clause-whole
returns-then-is_err-clause-whole g c = tt

pub returns-then-count-eq0-clause-whole : goal.returns-then-count-eq0-clause-whole
returns-then-count-eq0-clause-whole g c =
    λ small. c.in-Ok.ensures.ends.1 (c.if-count-eq0.true, omega (arith, length-take c.min-room.result c.loop-piece.piece))

pub returns-clause-given : goal.returns-clause-given
returns-clause-given g c = c.loop-piece.invariant.given

pub returns-clause-stops : goal.returns-clause-stops
returns-clause-stops g c = (c.loop-piece.text.items, (c.loop-piece.invariant.given, omega (arith, c.loop-piece.invariant.small)))

pub returns-in-Err-clause-given : goal.returns-in-Err-clause-given
returns-in-Err-clause-given g c = tt

pub returns-in-Err-clause-stops : goal.returns-in-Err-clause-stops
returns-in-Err-clause-stops g c = (c.loop-piece.text.items, (given_more_none _ _ _ c.loop-piece.text.items c.loop-piece.invariant.given c.in-Err.ensures.gives, omega (arith, c.loop-piece.invariant.small)))

pub returns-then-is_err-clause-given : goal.returns-then-is_err-clause-given
returns-then-is_err-clause-given g c = tt

pub returns-then-is_err-clause-stops : goal.returns-then-is_err-clause-stops
returns-then-is_err-clause-stops g c =
    (c.loop-piece.text.items ++ take c.in-Ok.count c.take.new.buffer, (given_more _ _ _ _ _ c.loop-piece.invariant.given c.in-Ok.ensures.gives, grind (arith, length-append, length-take)))

pub returns-then-count-eq0-clause-given : goal.returns-then-count-eq0-clause-given
returns-then-count-eq0-clause-given g c = given_last _ _ _ c.loop-piece.text.items c.take.new.buffer c.in-Ok.count c.if-count-eq0.true c.loop-piece.invariant.given c.in-Ok.ensures.gives

pub returns-then-count-eq0-clause-stops : goal.returns-then-count-eq0-clause-stops
returns-then-count-eq0-clause-stops g c =
    (c.loop-piece.text.items, (given_last _ _ _ c.loop-piece.text.items c.take.new.buffer c.in-Ok.count c.if-count-eq0.true c.loop-piece.invariant.given c.in-Ok.ensures.gives, omega (arith, c.loop-piece.invariant.small)))
