use Rattle.std.proofs.Common.{◌≡◌, ◌≤◌, ◌+◌, ◌*◌, ◌-◌, ◌∙◌, ap, arith, length, length-take-le, rules, subst}
use Rattle.std.proofs.{Common.take, lemmas.Result.err_from_is_err_and}
use Rattle.trlab_machine.specs.declared.columns.TheConstants.{BLOCK_CARS}
use Rattle.trlab_step.specs.declared.block.TheConstants.{BLOCK}
use Rattle.trlab_step.specs.Answers.{AnswersCrossing, AnswersCrossingsPart}
use Rattle.trlab_step.proofs.BlockAnswers.{block_crosses, more_are_free, more_crossings}
use Rattle.trlab_step.proofs.Blocks.{begin_is, begin_low, end_after, end_low, end_near, first_begin}
use Rattle.trlab_step.proofs.Blocks.{free_none, last_end, next_begin, part_none, size_is}
use Rattle.trlab_step.proofs.lane_change.compute_crossings.Goals as goal

pub loop-block-preserved : goal.loop-block-preserved
loop-block-preserved c =
    let program = c.args.change.now in
    let dice = c.args.dice.now in
    let road = c.args.road.now in
    let before = c.loop-block.crosses.items in
    let begin = c.args.from + BLOCK * c.loop-block.block in
    let size = begin + c.min.result - begin in
    let is = size_is c.args.from c.args.to c.loop-block.block c.requires.rising c.div_ceil-block-end.ensures c.loop-block-test.true c.min.result c.min.ensures in
    let near = end_near c.args.from c.args.to c.loop-block.block c.requires.rising c.div_ceil-block-end.ensures c.loop-block-test.true c.min.result c.min.ensures in
    let few : size ≤ BLOCK_CARS = omega (arith, is, near) in
    let block = take size c.run_changes-answers.result in
    let whole : length c.run_changes-answers.result ≡ BLOCK_CARS = search rules in
    let count : length block ≡ c.min.result = length-take-le size c.run_changes-answers.result (omega (arith, whole, few)) ∙ is in
    let end = ap (λ n. begin + n) count ∙ next_begin c.args.from c.args.to c.loop-block.block c.requires.rising c.div_ceil-block-end.ensures c.loop-block-test.true c.min.result c.min.ensures in
    let goes = block_crosses size few program dice road begin c.fill_change_views.new.views c.fill_change_views.ensures.cars c.run_changes-answers.result c.fill_change_views.ensures.each c.run_changes-answers.ensures in
    let start = begin_is c.args.from c.args.to c.loop-block.block c.requires.rising c.div_ceil-block-end.ensures c.loop-block-test.true in
    let here = subst (λ m. AnswersCrossingsPart program dice road c.args.from m before) start c.loop-block.invariant.answers in
    rw c.in_ok-extend_from_slice.ensures.items (record {
      answers = more_crossings program dice road c.args.from begin _ before block end goes here;
      free = more_are_free program dice road c.args.from begin _ before block end goes here c.loop-block.invariant.free;
    })

pub overflow_sub-to : goal.overflow_sub-to
overflow_sub-to c = c.requires.rising

pub overflow_sub-to-2 : goal.overflow_sub-to-2
overflow_sub-to-2 c = c.requires.rising

pub returns-in_err-reserve : goal.returns-in_err-reserve
returns-in_err-reserve c = let p = err_from_is_err_and c.from_residual.result c.from_residual.ensures.1 in rw p.1 tt

pub returns-in_err-extend_from_slice : goal.returns-in_err-extend_from_slice
returns-in_err-extend_from_slice c = let p = err_from_is_err_and c.from_residual-in_err-extend_from_slice.result c.from_residual-in_err-extend_from_slice.ensures.1 in rw p.1 tt

pub loop-block-init : goal.loop-block-init
loop-block-init c =
    let none = c.in_ok-reserve.ensures.items ∙ c.clear.ensures.items in
    record { answers = part_none (AnswersCrossing c.args.change.now c.args.dice.now c.args.road.now) c.args.road.now c.args.from _ _ none (first_begin c.args.from c.args.to c.requires.rising); free = free_none c.args.road.now c.args.from _ none }

pub overflow_sub-to-in-loop-block : goal.overflow_sub-to-in-loop-block
overflow_sub-to-in-loop-block c = begin_low c.args.from c.args.to c.loop-block.block c.requires.rising c.div_ceil-block-end.ensures c.loop-block-test.true

pub overflow_mul-begin : goal.overflow_mul-begin
overflow_mul-begin c = let low = begin_low c.args.from c.args.to c.loop-block.block c.requires.rising c.div_ceil-block-end.ensures c.loop-block-test.true in let to = c.ranges.to in omega (arith, low, to)

pub overflow_add-begin : goal.overflow_add-begin
overflow_add-begin c = let low = begin_low c.args.from c.args.to c.loop-block.block c.requires.rising c.div_ceil-block-end.ensures c.loop-block-test.true in let to = c.ranges.to in omega (arith, low, to)

pub overflow_add-end : goal.overflow_add-end
overflow_add-end c = let low = end_low c.args.from c.args.to c.loop-block.block c.requires.rising c.div_ceil-block-end.ensures c.loop-block-test.true c.min.result c.min.ensures in let to = c.ranges.to in omega (arith, low, to)

pub fill_change_views-requires : goal.fill_change_views-requires
fill_change_views-requires c =
    let low = end_low c.args.from c.args.to c.loop-block.block c.requires.rising c.div_ceil-block-end.ensures c.loop-block-test.true c.min.result c.min.ensures in
    let within = c.requires.in_range in
    (omega arith, (end_after c.args.from c.args.to c.loop-block.block c.requires.rising c.div_ceil-block-end.ensures c.loop-block-test.true c.min.result c.min.ensures, (end_near c.args.from c.args.to c.loop-block.block c.requires.rising c.div_ceil-block-end.ensures c.loop-block-test.true c.min.result c.min.ensures, (omega (arith, low, within), c.requires.two_lanes))))

pub run_changes-answers-requires : goal.run_changes-answers-requires
run_changes-answers-requires c = λ k near low. (c.fill_change_views.ensures.each k (rw c.fill_change_views.ensures.cars at low)).is_view

pub returns : goal.returns
returns c =
    let end = last_end c.args.from c.args.to c.loop-block.block c.requires.rising c.div_ceil-block-end.ensures c.loop-block-test.false in
    let answers = subst (λ m. AnswersCrossingsPart c.args.change.now c.args.dice.now c.args.road.now c.args.from m c.loop-block.crosses.items) end c.loop-block.invariant.answers in
    (answers, c.loop-block.invariant.free)
