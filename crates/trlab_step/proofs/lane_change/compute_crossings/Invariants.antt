use Rattle.std.proofs.Common.{◌+◌, ◌*◌, min}
use Rattle.trlab_step.specs.declared.block.TheConstants.{BLOCK}
use Rattle.trlab_step.specs.Answers.{AnswersCrossingsPart, CrossingsFitPart}
use Rattle.trlab_step.proofs.lane_change.compute_crossings.Given as goal

abbrev pub invariant-loop-block : goal.invariant-loop-block
invariant-loop-block l = record {
  answers : AnswersCrossingsPart l.change l.dice l.road l.from (min l.to (l.from + BLOCK * l.block)) l.crosses.items;
  free : CrossingsFitPart l.road l.from l.crosses.items;
}
