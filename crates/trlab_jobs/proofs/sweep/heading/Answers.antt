use Rattle.std.proofs.Common.{rules, Ok, Err}
use Rattle.trlab_texts.{specs.Reading.exactly, proofs.Readings.{line_by, handed_on}}
use Rattle.trlab_jobs.{specs.{Job.key_line, Sweep.sweep_line}, proofs.SweepLines.{sweep_fails, key_told}}
use Rattle.trlab_jobs.proofs.sweep.heading.Goals as goal

pub returns-in_err-rest : goal.returns-in_err-rest
returns-in_err-rest c =
    let fault = handed_on c.from_residual.result c.in_err-rest.field-0.0 c.from_residual.ensures.0 c.from_residual.ensures.1 in
    rw fault (sweep_fails c.args.rest c.in_err-rest.field-0.0
    (line_by _ (exactly sweep_line) c.args.rest (Err c.in_err-rest.field-0.0) (λ text says p. search rules) c.in_err-rest.ensures))

pub returns : goal.returns
returns c =
    key_told c.args.rest c.in_ok-rest.rest c.read_line-2.result
    (line_by _ (exactly sweep_line) c.args.rest (Ok (tt, c.in_ok-rest.rest)) (λ text says p. search rules) c.in_ok-rest.ensures)
    (line_by _ (exactly key_line) c.in_ok-rest.rest c.read_line-2.result (λ text says p. search rules) c.read_line-2.ensures)
