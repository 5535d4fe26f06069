use Rattle.std.proofs.Common.{◌≡◌, ◌∙◌, ◌∷◌, [], ◌++◌, ap, arith, sym, take, take_all}
use Rattle.std.proofs.lemmas.List.{take_more}
use Rattle.trlab_rules.specs.Rules.{Programs}
use Rattle.trlab_sequential_book.proofs.sheet.copy_entries.Goals as goal

pub loop-entry-preserved : goal.loop-entry-preserved
loop-entry-preserved c =
    let kept = c.loop-entry.invariant in
    let entries = c.args.entries.now in
    let i = c.loop-entry.entry-index in
    let entry = c.entry-item.result in
    let same : (entry.0, c.in_ok-rule.rule) ≡ entry = ap (λ (rule : Programs). (entry.0, rule)) c.in_ok-rule.ensures in
    let long = kept.len in
    let more = c.push_reserved.ensures.len in
    record {
      items = c.push_reserved.ensures.items ∙ ap (λ v. v ++ (entry.0, c.in_ok-rule.rule) ∷ []) kept.items
          ∙ ap (λ e. take i entries ++ e ∷ []) (same ∙ c.entry-item.is) ∙ sym (take_more entries i entry c.loop-entry-test.true);
      len = omega arith;
      room = c.push_reserved.ensures.capacity ∙ kept.room;
    }

pub push_reserved-requires : goal.push_reserved-requires
push_reserved-requires c =
    let len = c.loop-entry.invariant.len in
    let room = c.loop-entry.invariant.room in
    let below = c.loop-entry-test.true in
    omega arith

pub returns : goal.returns
returns c =
    let end = c.loop-entry-test.false in
    c.loop-entry.invariant.items ∙ take_all c.loop-entry.entry-index c.args.entries.now (omega arith)
