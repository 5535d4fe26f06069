use Rattle.std.proofs.Common.{◌≡◌, ◌≤◌, ◌+◌, ◌-◌, arith, length, length-take-le, refl, rules, take}
use Rattle.std.proofs.lemmas.Result.{err_from_is_err_and}
use Rattle.trlab_machine.specs.declared.columns.TheConstants.{SMALL_BLOCK_CARS}
use Rattle.trlab_step.{specs.Answers.AnswersSpeed, proofs.BlockAnswers.{block_goes, more_fit, more_speeds}}
use Rattle.trlab_step.proofs.Blocks.{fits_none, part_none}
use Rattle.trlab_step.proofs.motion.compute_few_speeds.Goals as goal

pub run_few_motions-requires : goal.run_few_motions-requires
run_few_motions-requires c = λ k near low. (c.fill_motion_views.ensures.each k (rw c.fill_motion_views.ensures.cars at low)).is_view

pub returns-in_err-extend_from_slice : goal.returns-in_err-extend_from_slice
returns-in_err-extend_from_slice c = let p = err_from_is_err_and c.from_residual.result c.from_residual.ensures.1 in rw p.1 tt

pub returns : goal.returns
returns c =
    let program = c.args.motion.now in
    let dice = c.args.dice.now in
    let road = c.args.road.now in
    let from = c.args.from in
    let size = c.args.to - from in
    let few : size ≤ SMALL_BLOCK_CARS = omega (arith, c.requires.at_most_small_block) in
    let block = take size c.low_bytes-answers.result in
    let whole : length c.low_bytes-answers.result ≡ SMALL_BLOCK_CARS = search rules in
    let count : length block ≡ size = length-take-le size c.low_bytes-answers.result (omega (arith, whole, few)) in
    let end : from + length block ≡ c.args.to = omega (arith, count, c.requires.rising) in
    let goes = block_goes size few program dice road from c.fill_motion_views.new.views c.fill_motion_views.ensures.cars c.run_few_motions.result c.low_bytes-answers.result c.fill_motion_views.ensures.each c.run_few_motions.ensures
    c.low_bytes-answers.ensures in
    let none = c.clear.ensures.items in
    let here = part_none (AnswersSpeed program dice road) road from from _ none refl in
    rw c.in_ok-extend_from_slice.ensures.items
    (more_speeds program dice road from from _ _ block end goes here, more_fit program dice road from from _ _ block end goes here (fits_none road from _ none))
