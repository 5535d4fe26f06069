use Rattle.std.proofs.Common.{◌≡◌, ◌∙◌, ◌<◌, ap, length, sym, subst, None, get_or-take}
use Rattle.trlab_notes.specs.{Reasons.reason_number, Stored.{stored_note_at, maybe_note}}
use Rattle.trlab_verify.{specs.Tables.noted_count, proofs.FirstNotes.{stored_note, first_notes}}
use Rattle.trlab_verify.proofs.table.judge_rejected.Goals as goal

pub write_all-requires : goal.write_all-requires
write_all-requires c = λ pc lt.
    let count = noted_count c.in-Some.rejection.at (reason_number c.in-Some.rejection.reason) in
    let len : length c.split_at.result.0.now ≡ count = c.split_at.ensures.front_len ∙ c.noted_count.ensures in
    let inside : pc < count = subst (λ n. pc < n) len lt in
    let (n, e, ranges) = stored_note c.args.kind (record { kind = c.args.kind; instrs = c.args.instrs.now }) c.in-Some.rejection.at _ c.in-Some.ensures.verdict (stored_note_at c.judge.new.notes) c.in-Some.ensures.judged pc inside in
    (n, ap maybe_note (rw c.split_at.ensures.front (get_or-take c.noted_count.result c.judge.new.notes pc None (rw c.noted_count.ensures inside))) ∙ e, ranges)

pub returns-in_ok-write_all-in-Some : goal.returns-in_ok-write_all-in-Some
returns-in_ok-write_all-in-Some c =
    let count = noted_count c.in-Some.rejection.at (reason_number c.in-Some.rejection.reason) in
    let len : length c.split_at.result.0.now ≡ count = c.split_at.ensures.front_len ∙ c.noted_count.ensures in
    let e = rw len at c.in_ok-write_all-in-Some.ensures in (
      c.in-Some.rejection.at,
      reason_number c.in-Some.rejection.reason,
      c.in-Some.ensures.verdict,
      first_notes c.args.kind (record { kind = c.args.kind; instrs = c.args.instrs.now }) c.in-Some.rejection.at _ c.in-Some.ensures.verdict (stored_note_at c.judge.new.notes) c.in_ok-write_all-in-Some.field-0.items c.in-Some.ensures.judged e.one_each e.first
          (λ pc above lt. sym (ap maybe_note (rw c.split_at.ensures.front (get_or-take c.noted_count.result c.judge.new.notes pc None (rw c.noted_count.ensures lt)))) ∙ e.later pc above lt),
    )
