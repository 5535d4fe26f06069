use Rattle.std.proofs.Common.{◌<◌, ◌≤◌}
use Rattle.trlab_bounds.specs.declared.programs.TheConstants.{WORDS, CERTAIN}
use Rattle.trlab_asm.{specs.Operands.{register, word_chance}, proofs.Shapes.{both_said, rest_known}}
use Rattle.trlab_asm.proofs.operands.register_word_chance.Goals as goal

pub returns-in-Some-clause-value : goal.returns-in-Some-clause-value
returns-in-Some-clause-value c =
    both_said register word_chance c.args.text.now c.in-Some.first.now c.in-Some.rest.now c.register.result c.word_chance.result c.both.result
    c.in-Some.ensures c.register.ensures c.word_chance.ensures.value c.both.ensures

pub returns-in-Some-clause-word : goal.returns-in-Some-clause-word
returns-in-Some-clause-word c = rest_known (λ x. x.0 < WORDS) c.register.result c.word_chance.result c.both.result c.both.ensures c.word_chance.ensures.word

pub returns-in-Some-clause-chance : goal.returns-in-Some-clause-chance
returns-in-Some-clause-chance c = rest_known (λ x. x.1 ≤ CERTAIN) c.register.result c.word_chance.result c.both.result c.both.ensures c.word_chance.ensures.chance
