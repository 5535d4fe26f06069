use Rattle.std.proofs.Common.{rules, sym, arith}
use Rattle.trlab_code.specs.declared.instruction.Variable.TheVariants as variable
use Rattle.trlab_verify.proofs.Forms.{form_says}
use Rattle.trlab_verify.proofs.note.variables.Goals as goal

pub loop-x-init : goal.loop-x-init
loop-x-init c = record {
  all = search rules;
  so_far = λ k lt. absurd (omega (arith, lt));
  rest = λ k. c.entry_values-variables.ensures (variable.Input k);
}

pub returns : goal.returns
returns c = λ x. sym (form_says c.args.kind c.args.form.now c.loop-x.variables (λ k lt. sym (c.loop-x.invariant.so_far k (omega arith))) c.loop-x.invariant.rest x)
