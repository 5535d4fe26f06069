use Rattle.std.proofs.Common.{rules, ◌≡◌, ◌∙◌, sym, ap, subst, arith, ◌∷◌, ◌++◌, [], length, length-append}
use Rattle.trlab_sequential_book.specs.Sheets.{BeginBy, IsBookSheet, with_rule_from}
use Rattle.trlab_sequential_book.proofs.Entering.{entered_at, entered_after, sheet_at, sheet_after}
use Rattle.trlab_sequential_book.proofs.Entering.{begin_before}
use Rattle.trlab_sequential_book.proofs.sheet.make_room.Goals as goal

pub returns-then-last-from-clause-ok : goal.returns-then-last-from-clause-ok
returns-then-last-from-clause-ok c rule =
    let s = subst IsBookSheet c.in-Some.ensures.items c.requires.sheet in
    sym (ap (λ v. with_rule_from v c.args.from rule) c.in-Some.ensures.items ∙ entered_at c.pop.new.self.items c.in-Some.last c.args.from rule s.is_sheet c.if-last-from.true)

pub returns-then-last-from-clause-sheet : goal.returns-then-last-from-clause-sheet
returns-then-last-from-clause-sheet c rule =
    let s = subst IsBookSheet c.in-Some.ensures.items c.requires.sheet in
    sheet_at c.pop.new.self.items c.in-Some.last c.args.from rule s c.if-last-from.true

pub returns-then-len-ge-MAX_ENTRIES-clause-err : goal.returns-then-len-ge-MAX_ENTRIES-clause-err
returns-then-len-ge-MAX_ENTRIES-clause-err c rule =
    let s = subst IsBookSheet c.in-Some.ensures.items c.requires.sheet in
    let b = begin_before c.args.from c.pop.new.self.items c.in-Some.last (subst (BeginBy c.args.from) c.in-Some.ensures.items c.requires.begin) c.if-last-from.false in
    let all = ap length (ap (λ v. with_rule_from v c.args.from rule) c.in-Some.ensures.items ∙ entered_after c.pop.new.self.items c.in-Some.last c.args.from rule s.is_sheet b) in
    let more = length-append (c.pop.new.self.items ++ c.in-Some.last ∷ []) ((c.args.from, rule) ∷ []) in
    let n : c.len.result ≡ length (c.pop.new.self.items ++ c.in-Some.last ∷ []) = search (rules, c.len.ensures, c.push_reserved.ensures) in
    let many = c.if-len-ge-MAX_ENTRIES.true in
    omega arith

pub returns-then-len-ge-MAX_ENTRIES-clause-unchanged : goal.returns-then-len-ge-MAX_ENTRIES-clause-unchanged
returns-then-len-ge-MAX_ENTRIES-clause-unchanged c = c.push_reserved.ensures.items ∙ sym c.in-Some.ensures.items

pub returns-clause-ok : goal.returns-clause-ok
returns-clause-ok c rule =
    let s = subst IsBookSheet c.in-Some.ensures.items c.requires.sheet in
    let b = begin_before c.args.from c.pop.new.self.items c.in-Some.last (subst (BeginBy c.args.from) c.in-Some.ensures.items c.requires.begin) c.if-last-from.false in
    let all = ap (λ v. with_rule_from v c.args.from rule) c.in-Some.ensures.items ∙ entered_after c.pop.new.self.items c.in-Some.last c.args.from rule s.is_sheet b in
    ap (λ v. v ++ (c.args.from, rule) ∷ []) (c.reserve.ensures.items ∙ c.push_reserved.ensures.items) ∙ sym all

pub returns-clause-sheet : goal.returns-clause-sheet
returns-clause-sheet c rule =
    let s = subst IsBookSheet c.in-Some.ensures.items c.requires.sheet in
    let b = begin_before c.args.from c.pop.new.self.items c.in-Some.last (subst (BeginBy c.args.from) c.in-Some.ensures.items c.requires.begin) c.if-last-from.false in
    let n : c.len.result ≡ length (c.pop.new.self.items ++ c.in-Some.last ∷ []) = search (rules, c.len.ensures, c.push_reserved.ensures) in
    let few = c.if-len-ge-MAX_ENTRIES.false in
    rw (c.reserve.ensures.items, c.push_reserved.ensures.items)
    (sheet_after c.pop.new.self.items c.in-Some.last c.args.from rule s b (omega arith))
