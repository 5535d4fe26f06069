use Rattle.std.proofs.Common.{◌<◌, ◌∷◌, [], ◌++◌, ◌∙◌, refl, length, flat_map, arith, decimal, codes}
use Rattle.trlab_road.specs.{Cells.{Lane, lane_of}, Pictures.picture}
use Rattle.trlab_campaign.{specs.Output.picture_line, proofs.Lines.{line_then, next_piece}}
use Rattle.trlab_campaign.proofs.output.push_step.Goals as goal

pub loop-lane-init : goal.loop-lane-init
loop-lane-init c =
    let line = codes "step " ++ (decimal c.args.step ++ (10 ∷ [])) in
    line_then (codes "step ") (decimal c.args.step) line c.args.out.now.items c.push_step_line.new.out.items
    (flat_map (λ lane. picture_line (picture lane)) c.args.road.now.lanes) refl c.in_ok-push_step_line.ensures

pub loop-lane-preserved : goal.loop-lane-preserved
loop-lane-preserved c =
    let inside : c.loop-lane.lane < length c.args.road.now.lanes = omega arith in
    next_piece (λ (lane : Lane). picture_line (picture lane)) c.args.road.now.lanes c.loop-lane.lane [] c.loop-lane.out.items
    c.push_picture.new.out.items c.push.new.self.items (picture (lane_of c.args.road.now c.loop-lane.lane)) (10 ∷ []) inside refl c.in_ok-push_picture.ensures.added c.in_ok-push.ensures.items
    ∙ c.loop-lane.invariant
