use Rattle.std.proofs.Common.{◌+◌, ◌*◌, min}
use Rattle.trlab_step.specs.{declared.block.TheConstants.BLOCK, Answers.{AnswersSpeedsPart, SpeedsFitPart}}
use Rattle.trlab_step.proofs.motion.compute_speeds.Given as goal

abbrev pub invariant-loop-block : goal.invariant-loop-block
invariant-loop-block l = record {
  answers : AnswersSpeedsPart l.motion l.dice l.road l.from (min l.to (l.from + BLOCK * l.block)) l.speeds.items;
  fits : SpeedsFitPart l.road l.from l.speeds.items;
}
