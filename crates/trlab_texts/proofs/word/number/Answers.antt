use Rattle.std.proofs.Common.{sym}
use Rattle.trlab_texts.proofs.Numbers.{numeral_form, ten_digits, zero_first, digits_written, one_long}
use Rattle.trlab_texts.proofs.word.number.Goals.{else-word-gt1-via-then-word-gt1+else-word-eq48}
use Rattle.trlab_texts.proofs.word.number.Goals.{else-word-gt1-via-else-word-gt1}
use Rattle.trlab_texts.proofs.word.number.Goals as goal

pub returns-then-not-is_numeral : goal.returns-then-not-is_numeral
returns-then-not-is_numeral c = λ n small e. numeral_form c.args.word.now n (sym c.if-not-is_numeral.ensures) small e

pub returns-then-word-gt-MAX_DIGITS : goal.returns-then-word-gt-MAX_DIGITS
returns-then-word-gt-MAX_DIGITS c = λ n small e. ten_digits c.args.word.now n c.if-word-gt-MAX_DIGITS.true small e

pub returns-then-word-eq48 : goal.returns-then-word-eq48
returns-then-word-eq48 c = λ n small e. zero_first c.args.word.now n c.if-word-gt1.true c.if-word-eq48.true small e

pub returns : goal.returns
returns c = rw c.digits_value.ensures
    (digits_written c.args.word.now (sym c.if-not-is_numeral.ensures) c.if-word-gt-MAX_DIGITS.false
    (elim c.else-word-gt1.branch [ else-word-gt1-via-then-word-gt1+else-word-eq48 w ↦ λ h. absurd (w.if-word-eq48.false h) | else-word-gt1-via-else-word-gt1 w ↦ λ h. one_long c.args.word.now w.if-word-gt1.false h ]))
