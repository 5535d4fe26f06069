use Rattle.std.proofs.Common.{◌≡◌, ◌<◌, ◌-◌, ◌∙◌, ℕ, Bool, true, false, cond, nat_eq, not, ap, arith}
use Rattle.trlab_road.proofs.{Lists.rises_high, ListSides.{between_side, between_ahead, between_behind}}
use Rattle.trlab_road.proofs.gaps.look_between.Goals as goal

-- a number that is kept or set to 0 does not increase
kept_low : (keeps : Bool) (m n limit : ℕ) → n ≡ cond keeps m 0 → m < limit → n < limit
kept_low true m n limit is low = rw is low
kept_low false m n limit is low = omega (arith, is, low)

pub returns-clause-beside : goal.returns-clause-beside
returns-clause-beside c =
    let cars = c.args.cars.now in
    let x = c.args.place in
    let inside = c.requires.inside in
    let high = rises_high 0 c.args.cells cars c.args.next c.requires.sorted c.requires.not_last in
    let near : x - c.place_at-2.result - 1 < c.args.cells = omega (arith, inside) in
    let seen = between_side c.args.cells cars x c.args.next c.requires.sorted inside c.requires.found c.requires.not_last _ (ap (λ m. not (nat_eq (m - x) 0)) c.place_at.ensures) in
    record {
      empty = seen;
      ahead = c.saturating_sub.ensures ∙ ap (λ m. m - x - 1) c.place_at.ensures ∙ between_ahead c.args.cells cars x c.args.next c.requires.sorted inside c.requires.found c.requires.not_last;
      behind = c.only_if.ensures ∙ ap (λ m. cond (not (nat_eq (c.place_at.result - x) 0)) (x - m - 1) 0) c.place_at-2.ensures
          ∙ between_behind c.args.cells cars x c.args.next c.requires.sorted inside c.requires.found c.requires.not_last _ seen c.requires.past;
      ahead_within = omega (arith, high, inside, c.saturating_sub.ensures, c.place_at.ensures);
      behind_within = kept_low _ _ _ _ c.only_if.ensures near;
    }
