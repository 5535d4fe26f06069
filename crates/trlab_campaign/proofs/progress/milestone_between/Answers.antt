use Rattle.std.proofs.Common.{◌≡◌, ◌∙◌, ℕ, ◌≤◌, subst, sym}
use Rattle.trlab_campaign.{specs.Ending.percent_done, proofs.Milestones.is_reached}
use Rattle.trlab_campaign.proofs.progress.milestone_between.Goals as goal

pub invariant_of-result : goal.invariant_of-result
invariant_of-result c =
    let other : percent_done c.args.after c.args.whole ≡ percent_done c.args.before c.args.whole → ⊥ =
    λ same. c.if-reached-percent_done.false (c.percent_done-reached.ensures ∙ (same ∙ sym c.percent_done.ensures)) in
    let reached = is_reached c.args.before c.args.after c.args.whole c.requires.rises other in
    let at_hand = c.requires.at_hand reached.more reached.left in
    record {
      at_least_one = subst (λ (n : ℕ). 1 ≤ n) (sym c.percent_done-reached.ensures) reached.some;
      at_most_all = subst (λ (n : ℕ). n ≤ 100) (sym c.percent_done-reached.ensures) reached.few;
      from_one = at_hand.0;
      to_last = at_hand.1;
    }
